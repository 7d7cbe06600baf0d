-- The records of objects: their keys, and that no two have one position.
use Rattle.std.proofs.Common.{◌≡◌, ℕ, ◌^◌, ◌<◌, true, false, cond, not, ltb, List, [], ◌∷◌, ◌++◌, map, length, filter, Ordering, Less, Greater, sym, refl, ◌∙◌, arith}
use Rattle.std.specs.Ordering.{is_lt, is_eq}
use Rattle.std.specs.List.{AllByRecursion}
use Rattle.std.proofs.lemmas.List.{take_at}
use Rattle.std.proofs.lemmas.Bool.{eqb-true, eq-eqb}
use Rattle.std.proofs.lemmas.Bool.Decides.{nat_tests}
use Rattle.words.specs.BigEndian.{be32, bytes32}
use Rattle.words.proofs.Overwritten.{value32}
use Rattle.kinds.specs.Kinds.{Kind, TotalOrder, turned}
use Rattle.kinds.specs.Numbers.{register_numbers, numeric, spread}
use Rattle.records.specs.Records.{key_of}
use Rattle.model.specs.Trees.{Object, child_of, is_alike}
use Rattle.model.specs.Indexes.{entry_of, line_of}
use Rattle.model.specs.Soundness.{Falling, Apart, clash}
use Rattle.model.proofs.Finds.{by_test}
use Rattle.model.proofs.Numbers.{falling_below}
use Rattle.model.proofs.Indexing.{Separate, Separated}

pub key_entry : (o : Object) → key_of (entry_of o) ≡ o.name
key_entry o = take_at o.name (bytes32 o.number ++ o.kind ∷ []) (length o.name) refl

apart_numbers : (h j a b : ℕ) → (a ≡ b → ⊥) → is_lt (cond (ltb j h) Less (cond (ltb h j) Greater (numeric b a))) ≡ not (is_lt (cond (ltb h j) Less (cond (ltb j h) Greater (numeric a b))))
apart_numbers h j a b n = grind (arith, nat_tests)

apart_orders : (h j : ℕ) (ab ba : Ordering) → ba ≡ turned ab → is_eq ab ≡ false → is_lt (cond (ltb j h) Less (cond (ltb h j) Greater ba)) ≡ not (is_lt (cond (ltb h j) Less (cond (ltb j h) Greater ab)))
apart_orders h j ab ba m n = grind (arith, nat_tests)

lines_apart : (o p : Object) → p.number < o.number → o.number < 2 ^ 32 → Separate register_numbers (line_of o) (line_of p)
lines_apart o p l s =
    apart_numbers (spread (bytes32 o.number)) (spread (bytes32 p.number)) (be32 (bytes32 o.number) 0) (be32 (bytes32 p.number) 0)
    (λ e. omega (arith, value32 o.number s, value32 p.number (omega arith)))

-- the lines of the register
pub lines_separated : (n : ℕ) (os : List Object) → n < 2 ^ 32 → Falling n os → Separated register_numbers (map line_of os)
lines_separated n [] s f = tt
lines_separated n (o ∷ os) s f =
    let low = f.0 in
    let small : o.number < 2 ^ 32 = omega arith in
    (go os (falling_below o.number os f.1) small, lines_separated o.number os small f.1)
  where
    go : (ps : List Object) → AllByRecursion (λ p. p.number < o.number) ps → o.number < 2 ^ 32 → AllByRecursion (Separate register_numbers (line_of o)) (map line_of ps)
    go [] b s = tt
    go (p ∷ ps) b s = (lines_apart o p b.0 s, go ps b.1 s)

-- the objects of a folder have lawful names
abbrev pub Children : Kind → ℕ → List Object → Type 0
Children k f os = AllByRecursion (λ o. child_of f o ≡ true → k.lawful o.name ≡ true) os

module _ (k : Kind) (t : TotalOrder k.lawful k.order) where
  names_apart : (f : ℕ) (o p : Object) → k.lawful o.name ≡ true → k.lawful p.name ≡ true → child_of f o ≡ true → child_of f p ≡ true → clash k p o ≡ false → Separate k (entry_of o) (entry_of p)
  names_apart f o p x y c d e =
      let one : p.parent ≡ o.parent = eqb-true _ _ d ∙ sym (eqb-true _ _ c) in
      let unlike : is_alike k o.name p.name ≡ false = rw (eq-eqb p.parent o.parent one) at e in
      rw (key_entry o, key_entry p) (apart_orders (k.hash o.name) (k.hash p.name) (k.order o.name p.name) (k.order p.name o.name) (t.mirrored o.name p.name x y) unlike)

  -- the entries of a folder
  pub entries_separated : (f : ℕ) (os : List Object) → Children k f os → Apart k os → Separated k (map entry_of (filter (child_of f) os))
  entries_separated f [] c a = tt
  entries_separated f (o ∷ os) c a =
      by_test (child_of f o)
      (λ e. rw e (go os e (c.0 e) c.1 a.0, entries_separated f os c.1 a.1))
      (λ e. rw e (entries_separated f os c.1 a.1))
    where
      go : (ps : List Object) → child_of f o ≡ true → k.lawful o.name ≡ true → Children k f ps → AllByRecursion (λ p. clash k p o ≡ false) ps → AllByRecursion (Separate k (entry_of o)) (map entry_of (filter (child_of f) ps))
      go [] e x c h = tt
      go (p ∷ ps) e x c h =
          by_test (child_of f p)
          (λ d. rw d (names_apart f o p x (c.0 d) e d h.0, go ps e x c.1 h.1))
          (λ d. rw d (go ps e x c.1 h.1))
