-- Numbers are given once.
use Rattle.std.proofs.Common.{◌≡◌, ℕ, ◌+◌, ◌<◌, ◌≤◌, List, [], ◌∷◌, ◌++◌, length, Some, None, Option, sym, refl, ap, ◌∙◌, subst, arith}
use Rattle.std.specs.List.{AllByRecursion}
use Rattle.kinds.specs.Kinds.{Kind}
use Rattle.model.specs.declared.refusal.Refusal.{Refusal}
use Rattle.model.specs.Refusals.{first_of}
use Rattle.model.specs.Trees.{Tree}
use Rattle.model.specs.Calls.{State, idle, live, Call, format, open', lookup, create, remove, rename, tally, lease, page, close, done, made, tree_of}
use Rattle.model.specs.Reasons.{reasons}
use Rattle.model.specs.Steps.{serve, settled}
use Rattle.model.specs.Histories.{Brought, Event, event, history}
use Rattle.model.specs.Laws.{Formats, NumbersOnce}

-- a live server whose next number is n at least
abbrev From : ℕ → State → Type 0
From n (idle image) = ⊥
From n (live tree leases) = n ≤ tree.next

from_next : (n : ℕ) (s : State) → From n s → n ≤ (tree_of s).next
from_next n (idle image) h = absurd h
from_next n (live t out) h = h

module _ (k : Kind) (count : ℕ) (buffer : List ℕ) where
  -- what gives a number, and how it leaves the next
  given : (s : State) (c : Call) (v : Option Refusal) (n : ℕ) → (settled v buffer s (serve k count buffer s c)).0 ≡ made n
      → ((tree_of s).next ≡ n) × From (n + 1) (settled v buffer s (serve k count buffer s c)).2
  given s c (Some why) n e = absurd (cc)
  given s format None n e = absurd (cc)
  given s open' None n e = absurd (cc)
  given s (lookup f m) None n e = absurd (cc)
  given s (create f m kind) None n e = let z : (tree_of s).next ≡ n = cc in (z, omega arith)
  given s (remove f m) None n e = absurd (cc)
  given s (rename f m g i) None n e = absurd (cc)
  given s tally None n e = absurd (cc)
  given s (lease f) None n e = absurd (cc)
  given s (page f b) None n e = absurd (cc)
  given s (close f) None n e = absurd (cc)

  -- no call but format lowers the next number
  onward : (t : Tree) (out : ℕ) (c : Call) (v : Option Refusal) (n : ℕ) → n ≤ t.next → (c ≡ format → (settled v buffer (live t out) (serve k count buffer (live t out) c)).0 ≡ done → ⊥)
      → From n (settled v buffer (live t out) (serve k count buffer (live t out) c)).2
  onward t out c (Some why) n h f = h
  onward t out format None n h f = absurd (f refl refl)
  onward t out open' None n h f = h
  onward t out (lookup i m) None n h f = h
  onward t out (create i m kind) None n h f = omega arith
  onward t out (remove i m) None n h f = h
  onward t out (rename i m g j) None n h f = h
  onward t out tally None n h f = h
  onward t out (lease i) None n h f = h
  onward t out (page i b) None n h f = h
  onward t out (close i) None n h f = h

module _ (k : Kind) (count : ℕ) where
  given_event : (s : State) (b : Brought) (n : ℕ) → (event k count s b).answer ≡ made n → ((tree_of s).next ≡ n) × From (n + 1) (event k count s b).left
  given_event s b n e = given k count b.buffer s b.call (first_of (reasons k count (length b.buffer) b.allowance s b.call)) n e

  onward_event : (s : State) (b : Brought) (n : ℕ) → From n s → (Formats (event k count s b) → ⊥) → From n (event k count s b).left
  onward_event (idle image) b n h f = absurd h
  onward_event (live t out) b n h f =
      onward k count b.buffer t out b.call (first_of (reasons k count (length b.buffer) b.allowance (live t out) b.call)) n h (λ x y. f (x, y))

  later : (s : State) (bs : List Brought) (between after : List Event) (f : Event) (m n : ℕ) → From m s → history k count s bs ≡ between ++ f ∷ after → AllByRecursion (λ x. Formats x → ⊥) between → f.answer ≡ made n → m ≤ n
  later s [] [] after f m n h e a g = absurd (cc)
  later s [] (x ∷ between) after f m n h e a g = absurd (cc)
  later s (b ∷ bs) [] after f m n h e a g =
      let same : event k count s b ≡ f = cc in
      let r = given_event s b n (ap (λ (x : Event). x.answer) same ∙ g) in
      let low = from_next m s h in
      let next = r.0 in
      omega arith
  later s (b ∷ bs) (x ∷ between) after f m n h e a g =
      let same : event k count s b ≡ x = cc in
      let rest : history k count (event k count s b).left bs ≡ between ++ f ∷ after = cc in
      later (event k count s b).left bs between after f m n (onward_event s b m h (subst (λ (y : Event). Formats y → ⊥) (sym same) a.0)) rest a.1 g

  once : (s : State) (bs : List Brought) (before between after : List Event) (e f : Event) (m n : ℕ) → history k count s bs ≡ before ++ e ∷ (between ++ f ∷ after)
      → e.answer ≡ made m → AllByRecursion (λ x. Formats x → ⊥) between → f.answer ≡ made n → m < n
  once s [] [] between after e f m n h p a q = absurd (cc)
  once s [] (x ∷ before) between after e f m n h p a q = absurd (cc)
  once s (b ∷ bs) [] between after e f m n h p a q =
      let same : event k count s b ≡ e = cc in
      let rest : history k count (event k count s b).left bs ≡ between ++ f ∷ after = cc in
      let r = given_event s b m (ap (λ (x : Event). x.answer) same ∙ p) in
      let l = later (event k count s b).left bs between after f (m + 1) n r.1 rest a q in
      omega arith
  once s (b ∷ bs) (x ∷ before) between after e f m n h p a q =
      let rest : history k count (event k count s b).left bs ≡ before ++ e ∷ (between ++ f ∷ after) = cc in
      once (event k count s b).left bs before between after e f m n rest p a q

pub numbers_once : NumbersOnce
numbers_once k count image calls = once k count (idle image) calls
