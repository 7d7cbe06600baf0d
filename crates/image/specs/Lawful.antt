-- The laws of a device, for the blocks of an image.
use Rattle.std.specs.Prelude.{◌≡◌, ℕ, ◌+◌, ◌*◌, ◌/◌, ◌<◌, ◌≤◌, min, List, [], length, drop, slice_index_or, refl}
use Rattle.std.proofs.Common.{sym, ap, subst, ◌∙◌, arith, lit<, length-take, length-drop}
use Rattle.std.proofs.lemmas.List.FromFn.{length-map-range_with_len, get_or-map-range_with_len}
use Rattle.device.specs.Laws.{Laws, BytesLaws}
use Rattle.image.specs.Blocks.{block_at, whole_blocks, image_blocks, SameBeyond}

pub block_ends : (bytes : List ℕ) (b : ℕ) → b < whole_blocks bytes → 512 * b + 512 ≤ length bytes
block_ends bytes b h = omega arith

pub length-image_blocks : (bytes : List ℕ) → length (image_blocks bytes) ≡ whole_blocks bytes
unfolding image_blocks
length-image_blocks bytes = length-map-range_with_len (block_at bytes) 0 (whole_blocks bytes)

pub get_or-image_blocks : (bytes : List ℕ) (b : ℕ) (d : List ℕ) → b < whole_blocks bytes → slice_index_or (image_blocks bytes) b d ≡ block_at bytes b
unfolding image_blocks
get_or-image_blocks bytes b d h = get_or-map-range_with_len (block_at bytes) 0 (whole_blocks bytes) b b d h (omega arith)

length-block_at : (bytes : List ℕ) (b : ℕ) → b < whole_blocks bytes → length (block_at bytes b) ≡ 512
length-block_at bytes b h = let i = block_ends bytes b h in simp (length-take, length-drop) (omega arith)

same_refl : (bytes : List ℕ) → SameBeyond bytes bytes
same_refl bytes = record { len = refl; rest = refl }

same_trans : (xs ys zs : List ℕ) → SameBeyond xs ys → SameBeyond ys zs → SameBeyond xs zs
same_trans xs ys zs p q = record {
  len = p.len ∙ q.len;
  rest = p.rest ∙ subst (λ (n : ℕ). drop (512 * min (n / 512) 65535) ys ≡ drop (512 * min (n / 512) 65535) zs) (sym p.len) q.rest;
}

-- of any struct that holds the bytes
pub owned_laws : {S : Type 0} (bytes : S → List ℕ) → Laws (λ s. image_blocks (bytes s)) (λ _. 4294967295) (λ s t. SameBeyond (bytes s) (bytes t))
owned_laws bytes = record {
  sized = λ s b h. let l : b < whole_blocks (bytes s) = omega (arith, length-image_blocks (bytes s)) in ap length (get_or-image_blocks (bytes s) b [] l) ∙ length-block_at (bytes s) b l;
  countable = λ s. omega (arith, length-image_blocks (bytes s));
  bounded = λ s. lit< tt;
  still = λ s. same_refl (bytes s);
  onward = λ s t u p q. same_trans (bytes s) (bytes t) (bytes u) p q;
}

-- of any struct that holds bytes, its own or lent
module _ {S B : Type 0} {kept : B → B → Type 0} (held : S → B) (bytes : B → List ℕ) (laws : BytesLaws kept) where
  abbrev of : S → List ℕ
  of s = bytes (held s)

  pub image_laws : Laws (λ s. image_blocks (of s)) (λ _. 4294967295) (λ s t. kept (held s) (held t) × SameBeyond (of s) (of t))
  image_laws =
      let o = owned_laws of in
      record {
        sized = o.sized;
        countable = o.countable;
        bounded = o.bounded;
        still = λ s. (laws.still (held s), o.still s);
        onward = λ s t u p q. (laws.onward _ _ _ p.0 q.0, o.onward s t u p.1 q.1);
      }

-- of any struct that holds a reference to the bytes, by the reference's name
pub lent_laws : {S N : Type 0} (bytes : S → List ℕ) (lender : S → N) → Laws (λ s. image_blocks (bytes s)) (λ _. 4294967295) (λ s t. (lender s ≡ lender t) × SameBeyond (bytes s) (bytes t))
lent_laws bytes lender = image_laws {kept = λ s t. lender s ≡ lender t} (λ s. s) bytes (record { still = λ _. refl; onward = λ _ _ _ p q. p ∙ q })
