-- The leases out balance.
use Rattle.std.proofs.Common.{◌≡◌, ℕ, ◌+◌, ◌≤◌, cond, List, [], ◌∷◌, length, Some, None, count_by, Option, refl, arith}
use Rattle.std.proofs.lemmas.List.Sums.{sum_by-cons}
use Rattle.std.proofs.lemmas.Bool.{ltb-false, eqb-false}
use Rattle.kinds.specs.Kinds.{Kind}
use Rattle.model.specs.declared.refusal.Refusal.{Refusal}
use Rattle.model.specs.Refusals.{first_of}
use Rattle.model.specs.Calls.{State, idle, Call, format, open', lookup, create, remove, rename, tally, lease, page, close, Outcome, leases_out}
use Rattle.model.specs.Reasons.{reasons}
use Rattle.model.specs.Steps.{serve, settled}
use Rattle.model.specs.Histories.{Brought, event, history}
use Rattle.model.specs.Laws.{gives_lease, takes_lease, state_after, LeasesBalance}
use Rattle.model.proofs.Kept.{none_hold}

module _ (k : Kind) (count : ℕ) (buffer : List ℕ) (allowance : ℕ) (s : State) where
  abbrev Even : Call → Outcome → Type 0
  Even c r =
      leases_out r.2 + cond (takes_lease (record { call = c; answer = r.0; buffer = r.1; left = r.2 })) 1 0
      ≡ leases_out s + cond (gives_lease (record { call = c; answer = r.0; buffer = r.1; left = r.2 })) 1 0

  refused_even : (why : Refusal) (c : Call) → Even c (settled (Some why) buffer s (serve k count buffer s c))
  refused_even why format = refl
  refused_even why open' = refl
  refused_even why (lookup f n) = refl
  refused_even why (create f n kind) = refl
  refused_even why (remove f n) = refl
  refused_even why (rename f n g m) = refl
  refused_even why tally = refl
  refused_even why (lease f) = refl
  refused_even why (page f b) = refl
  refused_even why (close f) = refl

  served_even : (c : Call) → first_of (reasons k count (length buffer) allowance s c) ≡ None → Even c (serve k count buffer s c)
  served_even format e = let h = ltb-false 0 (leases_out s) (none_hold (reasons k count (length buffer) allowance s format) e).0 in omega arith
  served_even open' e = let h = ltb-false 0 (leases_out s) (none_hold (reasons k count (length buffer) allowance s open') e).0 in omega arith
  served_even (lookup f n) e = refl
  served_even (create f n kind) e = refl
  served_even (remove f n) e = refl
  served_even (rename f n g m) e = refl
  served_even tally e = refl
  served_even (lease f) e = omega arith
  served_even (page f b) e = refl
  served_even (close f) e =
      let h = eqb-false (leases_out s) 0 (none_hold (reasons k count (length buffer) allowance s (close f)) e).0 in
      let p : 1 ≤ leases_out s = omega arith in
      omega arith

even_step : (k : Kind) (count : ℕ) (s : State) (b : Brought) → leases_out (event k count s b).left + cond (takes_lease (event k count s b)) 1 0 ≡ leases_out s + cond (gives_lease (event k count s b)) 1 0
even_step k count s b = go (first_of (reasons k count (length b.buffer) b.allowance s b.call)) refl
  where
    go : (v : Option Refusal) → first_of (reasons k count (length b.buffer) b.allowance s b.call) ≡ v → Even k count b.buffer b.allowance s b.call (settled v b.buffer s (serve k count b.buffer s b.call))
    go None e = served_even k count b.buffer b.allowance s b.call e
    go (Some why) e = refused_even k count b.buffer b.allowance s why b.call

even_run : (k : Kind) (count : ℕ) (s : State) (bs : List Brought)
    → leases_out (state_after s (history k count s bs)) + count_by takes_lease (history k count s bs) ≡ leases_out s + count_by gives_lease (history k count s bs)
even_run k count s [] = refl
even_run k count s (b ∷ bs) =
    let here = even_step k count s b in
    let rest = even_run k count (event k count s b).left bs in
    omega (arith, sum_by-cons (λ x. cond (takes_lease x) 1 0) (event k count s b) (history k count (event k count s b).left bs), sum_by-cons (λ x. cond (gives_lease x) 1 0) (event k count s b) (history k count (event k count s b).left bs))

pub leases_balance : LeasesBalance
leases_balance k count image calls = let e = even_run k count (idle image) calls in omega arith
