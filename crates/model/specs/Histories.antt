-- Histories: calls one after another, from one idle server.
use Rattle.std.specs.Prelude.{ℕ, List, [], ◌∷◌}
use Rattle.kinds.specs.Kinds.{Kind}
use Rattle.model.specs.Calls.{Call, Answer, State}
use Rattle.model.specs.Steps.{step}

-- a call, the buffer that it brings, and the allowance that it finds
pub record Brought : Type 0 where
  pub call : Call
  pub buffer : List ℕ
  pub allowance : ℕ

-- what came of a call: its answer, its buffer after it, and the state that it left
pub record Event : Type 0 where
  pub call : Call
  pub answer : Answer
  pub buffer : List ℕ
  pub left : State

-- what comes of a call in a state, over a device of `count` blocks
abbrev pub event : Kind → ℕ → State → Brought → Event
event kind count s b =
    let r = step kind count b.call b.buffer b.allowance s in
    record { call = b.call; answer = r.0; buffer = r.1; left = r.2 }

-- the events of calls one after another
abbrev pub history : Kind → ℕ → State → List Brought → List Event
history kind count s [] = []
history kind count s (b ∷ bs) = event kind count s b ∷ history kind count (event kind count s b).left bs
