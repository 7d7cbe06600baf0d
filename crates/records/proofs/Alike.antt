-- The record with an alike key among sorted records, by what a search answers.
use Rattle.std.proofs.Common.{◌≡◌, ℕ, ◌<◌, true, false, ◌≢◌, List, [], ◌∷◌, length, get_or, Equal, ap, ⊎_elim, arith}
use Rattle.std.specs.Ordering.{is_eq}
use Rattle.std.proofs.ByRecursion.{All-from_get_or}
use Rattle.std.proofs.lemmas.Bool.{cases_order}
use Rattle.kinds.specs.Kinds.{Kind, TotalOrder, AlikeHash}
use Rattle.kinds.proofs.Positions.{alike-position}
use Rattle.records.specs.Records.{key_of}
use Rattle.records.specs.Searches.{key_at, Sorted}
use Rattle.records.specs.Ordered.{alike}
use Rattle.records.proofs.Kept.{kept_none, kept_one}

module _ (kind : Kind) (o : TotalOrder kind.lawful kind.order) (level : AlikeHash kind) (key : List ℕ) (lk : kind.lawful key ≡ true) where
  -- two keys that are alike to a third are alike
  pub alike_both : (a b : List ℕ) → kind.lawful a ≡ true → kind.lawful b ≡ true → kind.order a key ≡ Equal → kind.order b key ≡ Equal → kind.order a b ≡ Equal
  alike_both a b la lb ea eb =
      let ma = o.mirrored a key la lk in
      let mb = o.mirrored b key lb lk in
      let mm = o.mirrored a b la lb in
      let ab = o.onward a key b la lk lb in
      let ba = o.onward b key a lb lk la in
      grind arith

  module _ (rs : List (List ℕ)) (s : Sorted kind rs) where
    -- no two records of a sorted list have alike keys
    pub alike-once : (m n : ℕ) → m < length rs → n < length rs → kind.order (key_at rs m) key ≡ Equal → kind.order (key_at rs n) key ≡ Equal → m ≡ n
    alike-once m n lm ln em en =
        let am = s.keyed m lm in
        let an = s.keyed n ln in
        let p = alike-position kind level (key_at rs m) (key_at rs n) am an (alike_both (key_at rs m) (key_at rs n) am an em en) in
        let q = alike-position kind level (key_at rs n) (key_at rs m) an am (alike_both (key_at rs n) (key_at rs m) an am en em) in
        ⊎_elim
        (λ (e : m ≡ n). e)
        (⊎_elim (λ (l : m < n). let r = s.rising m n l ln in absurd (grind arith)) (λ (l : n < m). let r = s.rising n m l lm in absurd (grind arith)))
        (cases_order m n)

    pub alike-found : (n : ℕ) → n < length rs → kind.order (key_at rs n) key ≡ Equal → alike kind key rs ≡ get_or rs n [] ∷ []
    unfolding alike
    alike-found n l e =
        kept_one (λ r. is_eq (kind.order (key_of r) key)) rs n [] l (ap is_eq e) (λ i li ne. let z = λ (w : kind.order (key_at rs i) key ≡ Equal). ne (alike-once i n li l w e) in grind arith)

    pub alike-absent : ((n : ℕ) → n < length rs → kind.order (key_at rs n) key ≢ Equal) → alike kind key rs ≡ []
    unfolding alike
    alike-absent none =
        kept_none (λ r. is_eq (kind.order (key_of r) key)) rs (All-from_get_or (λ r. is_eq (kind.order (key_of r) key) ≡ false) rs [] (λ i l. let z = none i l in grind arith))
