use Rattle.std.proofs.Common.{◌≡◌, ℕ, None, Some, Option, MatchOption, sym, ap, ◌∙◌, rules}
use Rattle.append_log.specs.declared.head.Head.{Head}
use Rattle.append_log.specs.Records.{count_of}
use Rattle.append_log.specs.Replayed.{length-log_blocks}
use Rattle.append_log.proofs.log.LogDevice.count.Goals as goal

counted : {Q : Head → Type 0} (head : Option Head) (n : ℕ) → MatchOption head (n ≡ 0) Q → ((h : Head) → Q h → n ≡ h.count) → n ≡ count_of head
counted None n e f = e
counted (Some head) n q f = f head q

pub returns : goal.returns
returns g c = counted c.args.self.now.head c.map_or.result c.map_or.ensures (λ h q. search rules) ∙ ap count_of c.args.self.now.checked ∙ sym (length-log_blocks (g.B.Bytes.bytes c.args.self.now.bytes))
