-- The laws of a device, for a window over any device.
use Rattle.std.specs.Prelude.{◌≡◌, ℕ, ◌+◌, ◌<◌, ◌≤◌, List, [], length, get_or, take, drop, slice_index_or, refl}
use Rattle.std.proofs.Common.{sym, ap, subst, ◌∙◌, ⊎_elim, arith, length-take, length-drop}
use Rattle.std.proofs.lemmas.List.{get_or-take, get_or-drop}
use Rattle.std.proofs.lemmas.Bool.{le-leb, lt-leb, cond-true, cond-false, cases_lt}
use Rattle.device.specs.Laws.{Laws}
use Rattle.window.specs.declared.span.Span.{Span}
use Rattle.window.specs.View.{view, SameOutside}

module _ (bs : List (List ℕ)) (w : Span) where
  pub view_in : w.start + w.count ≤ length bs → view bs w ≡ take w.count (drop w.start bs)
  unfolding view
  view_in h = cond-true _ _ _ (le-leb (w.start + w.count) (length bs) h)

  pub view_out : length bs < w.start + w.count → view bs w ≡ []
  unfolding view
  view_out h = cond-false _ _ _ (lt-leb (w.start + w.count) (length bs) h)

  pub length-view : w.start + w.count ≤ length bs → length (view bs w) ≡ w.count
  length-view h = ap length (view_in h) ∙ simp (length-take, length-drop) (omega arith)

  pub in_view : (b : ℕ) → b < length (view bs w) → (w.start + w.count ≤ length bs) × (b < w.count)
  in_view b h =
      ⊎_elim
      (λ (o : length bs < w.start + w.count). let e = ap length (view_out o) in absurd (omega arith))
      (λ (i : w.start + w.count ≤ length bs). (i, omega (arith, length-view i)))
      (cases_lt (length bs) (w.start + w.count))

  pub get_or-view : (b : ℕ) (d : List ℕ) → b < length (view bs w) → slice_index_or (view bs w) b d ≡ slice_index_or bs (w.start + b) d
  get_or-view b d h =
      let i = in_view b h in
      ap (λ v. get_or v b d) (view_in i.0) ∙ get_or-take w.count (drop w.start bs) b d i.1 ∙ get_or-drop w.start bs b d

  length-view_le : length (view bs w) ≤ length bs
  length-view_le =
      ⊎_elim
      (λ (o : length bs < w.start + w.count). omega (arith, ap length (view_out o)))
      (λ (i : w.start + w.count ≤ length bs). omega (arith, length-view i))
      (cases_lt (length bs) (w.start + w.count))

  pub outside_refl : SameOutside w bs bs
  outside_refl = record { len = refl; before = λ k h. refl; beyond = λ k h. refl; all = λ h. refl }

pub outside_trans : (w : Span) (bs cs ds : List (List ℕ)) → SameOutside w bs cs → SameOutside w cs ds → SameOutside w bs ds
outside_trans w bs cs ds p q = record {
  len = p.len ∙ q.len;
  before = λ k h. p.before k h ∙ q.before k h;
  beyond = λ k h. p.beyond k h ∙ q.beyond k h;
  all = λ h. p.all h ∙ q.all (omega (arith, p.len));
}

-- of any struct that holds the device below, its own or lent
module _ {S D : Type 0} {contents : D → List (List ℕ)} {allowed : D → ℕ} {kept : D → D → Type 0} (below : S → D) (span : S → Span) (laws : Laws contents allowed kept) where
  pub owned_laws : Laws (λ w. view (contents (below w)) (span w)) (λ w. allowed (below w)) (λ w v. (span w ≡ span v) × (SameOutside (span w) (contents (below w)) (contents (below v)) × kept (below w) (below v)))
  owned_laws = record {
    sized = λ w b h. let i = in_view (contents (below w)) (span w) b h in ap length (get_or-view (contents (below w)) (span w) b [] h) ∙ laws.sized (below w) ((span w).start + b) (omega arith);
    countable = λ w. omega (arith, length-view_le (contents (below w)) (span w), laws.countable (below w));
    bounded = λ w. laws.bounded (below w);
    still = λ w. (refl, (outside_refl _ _, laws.still (below w)));
    onward = λ u v w p q.
        let o : SameOutside (span u) (contents (below v)) (contents (below w)) = subst (λ (s : Span). SameOutside s (contents (below v)) (contents (below w))) (sym p.0) q.1.0 in
        (p.0 ∙ q.0, (outside_trans _ _ _ _ p.1.0 o, laws.onward _ _ _ p.1.1 q.1.1));
  }

  -- of any struct that holds a reference to it, by the reference's name
  pub lent_laws : {N : Type 0} (lender : S → N) → Laws (λ w. view (contents (below w)) (span w)) (λ w. allowed (below w)) (λ w v. (lender w ≡ lender v) × ((span w ≡ span v) × (SameOutside (span w) (contents (below w)) (contents (below v)) × kept (below w) (below v))))
  lent_laws lender = record {
    sized = owned_laws.sized;
    countable = owned_laws.countable;
    bounded = owned_laws.bounded;
    still = λ w. (refl, owned_laws.still w);
    onward = λ u v w p q. (p.0 ∙ q.0, owned_laws.onward u v w p.1 q.1);
  }
