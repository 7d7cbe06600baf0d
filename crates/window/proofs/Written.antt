-- A window after a write through it.
use Rattle.std.proofs.Common.{◌≡◌, ℕ, ◌+◌, ◌<◌, Bool, true, false, cond, ◌≢◌, List, [], length, get_or, set, sym, ap, ◌∙◌, subst, ⊎_elim, arith, length-set}
use Rattle.std.proofs.lemmas.List.{ext_get_or, get_or-set_same, get_or-set_other}
use Rattle.std.proofs.lemmas.Bool.{cases_eq}
use Rattle.window.specs.declared.span.Span.{Span}
use Rattle.window.specs.View.{view, SameOutside}
use Rattle.window.specs.Lawful.{in_view, length-view, get_or-view, outside_refl}

module _ (bs : List (List ℕ)) (w : Span) (b : ℕ) (x : List ℕ) (l : b < length (view bs w)) where
  same_length : length (view (set bs (w.start + b) x) w) ≡ length (view bs w)
  same_length =
      let i = in_view bs w b l in
      let e = length-set bs (w.start + b) x in
      length-view (set bs (w.start + b) x) w (omega arith) ∙ sym (length-view bs w i.0)

  block_at_lem : (k : ℕ) → k < length (view bs w) → get_or (view (set bs (w.start + b) x) w) k [] ≡ get_or (set (view bs w) b x) k []
  block_at_lem k h =
      let i = in_view bs w b l in
      let m : w.start + b < length bs = omega arith in
      let e = same_length in
      get_or-view (set bs (w.start + b) x) w k [] (omega arith)
      ∙ ⊎_elim
      (λ q. ap (λ j. get_or (set bs (w.start + b) x) (w.start + j) []) q ∙ get_or-set_same bs (w.start + b) x [] m ∙ sym (ap (λ j. get_or (set (view bs w) b x) j []) q ∙ get_or-set_same (view bs w) b x [] l))
      (λ (q : k ≢ b). let ne : w.start + k ≢ w.start + b = omega arith in get_or-set_other bs (w.start + b) (w.start + k) x [] ne ∙ sym (get_or-set_other (view bs w) b k x [] q ∙ get_or-view bs w k [] h))
      (cases_eq k b)

  pub view-set : view (set bs (w.start + b) x) w ≡ set (view bs w) b x
  view-set =
      ext_get_or [] (view (set bs (w.start + b) x) w) (set (view bs w) b x) (same_length ∙ sym (length-set (view bs w) b x)) (λ k h. block_at_lem k (omega (arith, same_length)))

  pub outside_set : SameOutside w bs (set bs (w.start + b) x)
  outside_set =
      let i = in_view bs w b l in
      record {
        len = sym (length-set bs (w.start + b) x);
        before = λ k h. let ne : k ≢ w.start + b = omega arith in sym (get_or-set_other bs (w.start + b) k x [] ne);
        beyond = λ k h. let ne : k ≢ w.start + b = omega arith in sym (get_or-set_other bs (w.start + b) k x [] ne);
        all = λ h. absurd (omega arith);
      }

  -- the same where the write below may be refused
  pub view-after : (cs : List (List ℕ)) (k : ℕ) (r : Bool) → cs ≡ cond r (set bs k x) bs → k ≡ w.start + b → view cs w ≡ cond r (set (view bs w) b x) (view bs w)
  view-after cs k true e p = ap (λ ds. view ds w) (e ∙ ap (λ j. set bs j x) p) ∙ view-set
  view-after cs k false e p = ap (λ ds. view ds w) e

  pub outside_after : (cs : List (List ℕ)) (k : ℕ) (r : Bool) → cs ≡ cond r (set bs k x) bs → k ≡ w.start + b → SameOutside w bs cs
  outside_after cs k true e p = subst (λ (ds : List (List ℕ)). SameOutside w bs ds) (sym (e ∙ ap (λ j. set bs j x) p)) outside_set
  outside_after cs k false e p = subst (λ (ds : List (List ℕ)). SameOutside w bs ds) (sym e) (outside_refl bs w)
