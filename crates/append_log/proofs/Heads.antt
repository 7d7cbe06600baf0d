-- What a head that was kept tells of the bytes.
use Rattle.std.proofs.Common.{◌≡◌, ℕ, ◌-◌, ◌/◌, ◌≤◌, min, true, false, List, length, Some, None, Option, sym, ap, ◌∙◌, ⊎_elim, arith}
use Rattle.std.proofs.lemmas.Bool.{cases_Bool}
use Rattle.append_log.specs.declared.head.Head.{Head}
use Rattle.append_log.specs.Records.{used, total, start, valid, head_of, count_of, room_of, log_blocks, log_room}
use Rattle.append_log.specs.Replayed.{valid_parts, head_of-valid, head_of_not, length-log_blocks}

pub record Told (xs : List ℕ) (head : Head) : Type 0 where
  pub is_valid : valid xs ≡ true
  pub records : head.used ≡ used xs
  pub many : head.count ≡ total xs
  pub headed : 6 ≤ length xs
  pub fits : start head.used ≤ length xs
  pub len : length (log_blocks xs) ≡ head.count
  pub room : log_room xs ≡ min ((length xs - 6) / 514 - head.used) (4294967295 - head.used)

valid-from-head : (xs : List ℕ) (head : Head) → Some head ≡ head_of xs → valid xs ≡ true
valid-from-head xs head e =
    ⊎_elim (λ (v : valid xs ≡ true). v) (λ (v : valid xs ≡ false). let n : Some head ≡ None = e ∙ head_of_not xs v in let z : ◌≡◌ {A = ℕ} 0 1 = cc in absurd (omega arith)) (cases_Bool (valid xs))

abbrev used_of : Option Head → ℕ
used_of None = 0
used_of (Some head) = head.used

pub told : (xs : List ℕ) (head : Head) → Some head ≡ head_of xs → Told xs head
told xs head e =
    let v = valid-from-head xs head e in
    let p = valid_parts xs v in
    let u : head.used ≡ used xs = ap used_of (e ∙ head_of-valid xs v) in
    record {
      is_valid = v;
      records = u;
      many = ap count_of (e ∙ head_of-valid xs v);
      headed = p.0;
      fits = omega arith;
      len = length-log_blocks xs ∙ sym (ap count_of e);
      room = sym (ap (room_of (length xs)) e);
    }

pub no_blocks : (xs : List ℕ) → None ≡ head_of xs → length (log_blocks xs) ≡ 0
no_blocks xs e = length-log_blocks xs ∙ sym (ap count_of e)
