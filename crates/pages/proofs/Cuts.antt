-- Records cut from their bytes, and writes that follow one another.
use Rattle.std.proofs.Common.{◌≡◌, ℕ, ◌+◌, ◌*◌, ◌≤◌, List, [], ◌∷◌, ◌++◌, length, take, drop, sum, sym, refl, ap, ◌∙◌, append_assoc, arith, length-append, length-drop}
use Rattle.std.proofs.lemmas.List.{take_at, drop_at, drop-drop, length-take-le, take-append-le, drop-append-le, take-append-drop, take_all, nil_from_length}
use Rattle.std.proofs.lemmas.List.Sums.{sum_by-cons}
use Rattle.records.specs.Records.{load}
use Rattle.buckets.specs.Blocks.{size, bodies, pairs}
use Rattle.buckets.proofs.Held.{load_is}
use Rattle.buckets.specs.Builds.{over, pair}
use Rattle.pages.specs.Gathered.{cut, pairs_by}

pub length_cut : (ns bs : List ℕ) → length (cut ns bs) ≡ length ns
length_cut [] bs = refl
length_cut (n ∷ ns) bs = let h = length_cut ns (drop n bs) in omega arith

cut_split : (n : ℕ) (ns bs : List ℕ) → sum (n ∷ ns) ≡ length bs → (n ≤ length bs) × (sum ns ≡ length (drop n bs))
cut_split n ns bs e =
    let s = sum_by-cons (λ (x : ℕ). x) n ns in
    let d = length-drop n bs in
    (omega arith, omega arith)

pub bodies-cut : (ns bs : List ℕ) → sum ns ≡ length bs → bodies (cut ns bs) ≡ bs
bodies-cut [] bs e = sym (nil_from_length bs (sym e))
bodies-cut (n ∷ ns) bs e =
    let p = cut_split n ns bs e in
    ap (λ x. take n bs ++ x) (bodies-cut ns (drop n bs) p.1) ∙ take-append-drop n bs

pub size-cut : (ns bs : List ℕ) → sum ns ≡ length bs → size (cut ns bs) ≡ length bs
size-cut [] bs e = e
size-cut (n ∷ ns) bs e =
    let p = cut_split n ns bs e in
    let h = size-cut ns (drop n bs) p.1 in
    let t = length-take-le n bs p.0 in
    let d = length-drop n bs in
    omega arith

pub load_cut : (ns bs : List ℕ) → sum ns ≡ length bs → load (cut ns bs) ≡ 4 * length ns + length bs
load_cut ns bs e = omega (arith, load_is (cut ns bs), length_cut ns bs, size-cut ns bs e)

-- the pairs go by the lengths alone
pub pairs-cut : (from : ℕ) (ns bs : List ℕ) → sum ns ≡ length bs → pairs from (cut ns bs) ≡ pairs_by from ns
pairs-cut from [] bs e = refl
pairs-cut from (n ∷ ns) bs e =
    let p = cut_split n ns bs e in
    let t = length-take-le n bs p.0 in
    let h = pairs-cut (from + n) ns (drop n bs) p.1 in
    rw (t, h)

-- one record more
pub cut_push : (ns bs item : List ℕ) → sum ns ≡ length bs → cut (ns ++ length item ∷ []) (bs ++ item) ≡ cut ns bs ++ item ∷ []
cut_push [] bs item e =
    let z : bs ≡ [] = nil_from_length bs (sym e) in
    rw z (ap (λ x. x ∷ []) (take_all (length item) item (omega arith)))
cut_push (n ∷ ns) bs item e =
    let p = cut_split n ns bs e in
    let l = p.0 in
    let t = take-append-le n bs item l in
    let d = drop-append-le n bs item l in
    let h = cut_push ns (drop n bs) item p.1 in
    rw (t, d, h)

pub length-pairs_by : (from : ℕ) (ns : List ℕ) → length (pairs_by from ns) ≡ 4 * length ns
length-pairs_by from [] = refl
length-pairs_by from (n ∷ ns) = let h = length-pairs_by (from + n) ns in omega arith

pub pairs_by_push : (from : ℕ) (ns : List ℕ) (n : ℕ) → pairs_by from (ns ++ n ∷ []) ≡ pairs_by from ns ++ pair (from + sum ns) n
pairs_by_push from [] n = let e : from + 0 ≡ from = omega arith in rw e
pairs_by_push from (x ∷ ns) n =
    let h = pairs_by_push (from + x) ns n in
    let s = sum_by-cons (λ (y : ℕ). y) x ns in
    let e : from + sum (x ∷ ns) ≡ from + x + sum ns = omega arith in
    rw (e, h)

-- a write just after another is one write of both
pub over-over : (a m : ℕ) (x y b : List ℕ) → m ≡ a + length x → a + length x ≤ length b → over m y (over a x b) ≡ over a (x ++ y) b
over-over a m x y b e l =
    let p = take a b in
    let d = drop (a + length x) b in
    let pl : length p ≡ a = length-take-le a b (omega arith) in
    let fl : length (p ++ x) ≡ m = omega (arith, length-append p x) in
    let g : p ++ (x ++ d) ≡ (p ++ x) ++ d = sym (append_assoc p x d) in
    let t : take m (p ++ (x ++ d)) ≡ p ++ x = ap (take m) g ∙ take_at (p ++ x) d m fl in
    let s : drop (m + length y) (p ++ (x ++ d)) ≡ drop (a + length (x ++ y)) b =
    ap (drop (m + length y)) g
    ∙ sym (drop-drop (length y) m ((p ++ x) ++ d))
    ∙ ap (drop (length y)) (drop_at (p ++ x) d m fl)
    ∙ drop-drop (length y) (a + length x) b
    ∙ ap (λ n. drop n b) (omega (arith, length-append x y))
    in
    rw (t, s) (append_assoc p x _ ∙ ap (λ z. p ++ z) (sym (append_assoc x y _)))
