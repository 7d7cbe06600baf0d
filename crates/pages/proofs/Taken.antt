-- Records taken one after another, and bucket by bucket.
use Rattle.std.proofs.Common.{◌≡◌, ℕ, ◌+◌, ◌-◌, ◌<◌, ◌≤◌, Bool, true, false, List, [], ◌∷◌, ◌++◌, length, sym, refl, ap, ◌∙◌, subst, ⊎_elim, append_assoc, arith, length-append}
use Rattle.std.proofs.lemmas.List.{append-nil}
use Rattle.std.proofs.lemmas.Bool.{cond-true, le-leb, eq-eqb, ne_eqb, eqb-true, eqb-false}
use Rattle.records.specs.Records.{weight, load}
use Rattle.pages.specs.Pages.{fitting, used}
use Rattle.pages.proofs.Fits.{load-append, fitting-append, fitting_heavy, fitting_stop, fitting_either}
use Rattle.pages.specs.Takes.{Took}

-- a page with the records `is` has yet to be offered `rest` of the items
pub record Taking (size : ℕ) (was items is rest : List (List ℕ)) : Type 0 where
  pub shown : is ++ fitting (size - used is) rest ≡ was ++ fitting (size - used was) items
  pub count : length is + length rest ≡ length was + length items

pub took_at : (size m : ℕ) (was items is : List (List ℕ)) (whole b : Bool) → size ≡ m → whole ≡ b → Took size was items is whole → Took m was items is b
took_at size m was items is whole b e f t = subst (λ n. Took n was items is b) e (subst (Took size was items is) f t)

module _ (size : ℕ) (was items : List (List ℕ)) where
  pub taking_none : Taking size was items was items
  taking_none = record { shown = refl; count = refl }

  module _ (is : List (List ℕ)) where
    shown-none : (rest : List (List ℕ)) → Taking size was items is rest → fitting (size - used is) rest ≡ [] → is ≡ was ++ fitting (size - used was) items
    shown-none rest t e = sym (append-nil is) ∙ ap (λ xs. is ++ xs) (sym e) ∙ t.shown

    -- all were offered, and taken
    pub taking-all : Taking size was items is [] → Took size was items is true
    taking-all t =
        let e = shown-none [] t refl in
        let n = ap length e ∙ length-append was (fitting (size - used was) items) in
        let c = t.count in
        record { shown = e; told = sym (eq-eqb (length (fitting (size - used was) items)) (length items) (omega arith)) }

    -- the next one does not fit
    pub taking-stop : (item : List ℕ) (rest : List (List ℕ)) → Taking size was items is (item ∷ rest) → size < used is + weight item → Took size was items is false
    taking-stop item rest t l =
        let e = shown-none (item ∷ rest) t (fitting_stop (size - used is) item rest (omega arith)) in
        let n = ap length e ∙ length-append was (fitting (size - used was) items) in
        let c = t.count in
        record { shown = e; told = sym (ne_eqb (length (fitting (size - used was) items)) (length items) (λ z. omega arith)) }

    -- the next one fits
    pub taking-more : (item : List ℕ) (rest : List (List ℕ)) → Taking size was items is (item ∷ rest) → used is + weight item ≤ size → Taking size was items (is ++ item ∷ []) rest
    taking-more item rest t l =
        let a = load-append is (item ∷ []) in
        let f : fitting (size - used is) (item ∷ rest) ≡ item ∷ fitting (size - used is - weight item) rest = cond-true _ _ _ (le-leb (weight item) (size - used is) (omega arith)) in
        let r : size - used (is ++ item ∷ []) ≡ size - used is - weight item = omega arith in
        let n = length-append is (item ∷ []) in
        let c = t.count in
        record {
          shown = append_assoc is (item ∷ []) _ ∙ ap (λ k. is ++ item ∷ fitting k rest) r ∙ ap (λ xs. is ++ xs) (sym f) ∙ t.shown;
          count = omega arith;
        }

    module _ (part rest next : List (List ℕ)) (t : Taking size was items is (part ++ rest)) (fits : used is ≤ size) where
      -- all of a part of them fit
      pub taking-part : Took size is part next true → Taking size was items next rest
      taking-part took =
          let room = size - used is in
          let z : length (fitting room part) ≡ length part = eqb-true _ _ (sym took.told) in
          ⊎_elim
          (λ (e : (load part ≤ room) × (fitting room part ≡ part)).
          let l = e.0 in
          let n : next ≡ is ++ part = took.shown ∙ ap (λ xs. is ++ xs) e.1 in
          let a = load-append is part in
          let u : size - used next ≡ room - load part = ap (λ xs. size - used xs) n ∙ omega arith in
          let c = t.count in
          record {
            shown = ap (λ xs. xs ++ fitting (size - used next) rest) n ∙ append_assoc is part _ ∙ ap (λ k. is ++ (part ++ fitting k rest)) u ∙ ap (λ xs. is ++ xs) (sym (fitting-append room part rest l)) ∙ t.shown;
            count = omega (arith, ap length n, length-append is part, length-append part rest);
          })
          (λ (e : (room < load part) × (length (fitting room part) < length part)). absurd (omega arith))
          (fitting_either room part)

      -- one of the part does not
      pub taking-end : Took size is part next false → Took size was items next false
      taking-end took =
          let room = size - used is in
          let z = eqb-false (length (fitting room part)) (length part) (sym took.told) in
          ⊎_elim
          (λ (e : (load part ≤ room) × (fitting room part ≡ part)). absurd (z (ap length e.1)))
          (λ (e : (room < load part) × (length (fitting room part) < length part)).
          let f : fitting room (part ++ rest) ≡ fitting room part = fitting_heavy room part rest e.0 in
          let s : next ≡ was ++ fitting (size - used was) items = took.shown ∙ ap (λ xs. is ++ xs) (sym f) ∙ t.shown in
          let n = ap length s ∙ length-append was (fitting (size - used was) items) in
          let m = ap length took.shown ∙ length-append is (fitting room part) in
          let c = t.count in
          let k = length-append part rest in
          record { shown = s; told = sym (ne_eqb (length (fitting (size - used was) items)) (length items) (λ q. omega arith)) })
          (fitting_either room part)
