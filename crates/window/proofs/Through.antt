-- What a write through a window does to the blocks below.
use Rattle.std.proofs.Common.{◌≡◌, ℕ, ◌+◌, ◌-◌, ◌<◌, ◌≤◌, Bool, true, false, cond, List, [], length, get_or, set, sym, refl, ap, ◌∙◌, ⊎_elim, arith}
use Rattle.std.proofs.lemmas.List.{ext_get_or}
use Rattle.std.proofs.lemmas.Bool.{cases_lt}
use Rattle.window.specs.declared.span.Span.{Span}
use Rattle.window.specs.View.{view, SameOutside}
use Rattle.window.specs.Lawful.{length-view, get_or-view, outside_trans}
use Rattle.window.proofs.Written.{view-set, outside_set}

outside_sym : (w : Span) (bs cs : List (List ℕ)) → SameOutside w bs cs → SameOutside w cs bs
outside_sym w bs cs o = record {
  len = sym o.len;
  before = λ k h. sym (o.before k h);
  beyond = λ k h. sym (o.beyond k h);
  all = λ h. sym (o.all (omega (arith, o.len)));
}

-- a block of the span, by its place in the view
inside : (w : Span) (bs : List (List ℕ)) (k : ℕ) → w.start + w.count ≤ length bs → w.start ≤ k → k < w.start + w.count → get_or bs k [] ≡ get_or (view bs w) (k - w.start) []
inside w bs k fits from to =
    let n = length-view bs w fits in
    let e : w.start + (k - w.start) ≡ k = omega arith in
    sym (get_or-view bs w (k - w.start) [] (omega arith) ∙ ap (λ j. get_or bs j []) e)

-- the same outside the window and in it
same_blocks : (w : Span) (bs cs : List (List ℕ)) → SameOutside w bs cs → view bs w ≡ view cs w → bs ≡ cs
same_blocks w bs cs o v =
    let n = o.len in
    let at : w.start + w.count ≤ length bs → (k : ℕ) → k < length bs → get_or bs k [] ≡ get_or cs k [] = λ fits k h.
    ⊎_elim
    (λ (l : k < w.start). o.before k l)
    (λ (l : w.start ≤ k).
    ⊎_elim
    (λ (m : k < w.start + w.count). inside w bs k fits l m ∙ ap (λ u. get_or u (k - w.start) []) v ∙ sym (inside w cs k (omega arith) l m))
    (λ (m : w.start + w.count ≤ k). o.beyond k m)
    (cases_lt k (w.start + w.count)))
    (cases_lt k w.start)
    in
    ⊎_elim o.all (λ (fits : w.start + w.count ≤ length bs). ext_get_or [] bs cs n (at fits)) (cases_lt (length bs) (w.start + w.count))

-- a write that is served sets block start + b below, and one that is refused sets none
pub through : (w : Span) (bs cs : List (List ℕ)) (b : ℕ) (x : List ℕ) (r : Bool) → SameOutside w bs cs → (r ≡ true → b < length (view bs w)) → view cs w ≡ cond r (set (view bs w) b x) (view bs w) → cs ≡ cond r (set bs (w.start + b) x) bs
through w bs cs b x true o l v =
    let m = l refl in
    same_blocks w cs (set bs (w.start + b) x) (outside_trans w cs bs (set bs (w.start + b) x) (outside_sym w bs cs o) (outside_set bs w b x m)) (v ∙ sym (view-set bs w b x m))
through w bs cs b x false o l v = same_blocks w cs bs (outside_sym w bs cs o) v
