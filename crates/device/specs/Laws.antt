-- What holds of every device, whatever it holds.
use Rattle.std.specs.Prelude.{◌≡◌, ℕ, ◌^◌, ◌<◌, List, [], length, slice_index_or, refl}
use Rattle.std.proofs.Common.{◌∙◌}

pub record Laws {S : Type 0} (contents : S → List (List ℕ)) (allowed : S → ℕ) (kept : S → S → Type 0) : Type 0 where
  -- a block has 512 bytes
  pub sized : (d : S) (b : ℕ) → b < length (contents d) → length (slice_index_or (contents d) b []) ≡ 512
  -- count and allowance have 32 bits
  pub countable : (d : S) → length (contents d) < 2 ^ 32
  pub bounded : (d : S) → allowed d < 2 ^ 32
  -- what is kept by nothing, and by two calls after one another
  pub still : (d : S) → kept d d
  pub onward : (d e f : S) → kept d e → kept e f → kept d f

-- of a reference to a device, by the reference's name
pub lent_laws : {R N S : Type 0} {contents : S → List (List ℕ)} {allowed : S → ℕ} {kept : S → S → Type 0} (device : R → S) (lender : R → N) → Laws contents allowed kept → Laws (λ r. contents (device r)) (λ r. allowed (device r)) (λ r s. (lender r ≡ lender s) × kept (device r) (device s))
lent_laws device lender laws = record {
  sized = λ r. laws.sized (device r);
  countable = λ r. laws.countable (device r);
  bounded = λ r. laws.bounded (device r);
  still = λ r. (refl, laws.still (device r));
  onward = λ r s t p q. (p.0 ∙ q.0, laws.onward _ _ _ p.1 q.1);
}

-- what no write to bytes changes, is not changed by none, nor by two
pub record BytesLaws {S : Type 0} (kept : S → S → Type 0) : Type 0 where
  pub still : (b : S) → kept b b
  pub onward : (b c d : S) → kept b c → kept c d → kept b d

pub lent_bytes_laws : {R N S : Type 0} {kept : S → S → Type 0} (bytes : R → S) (lender : R → N) → BytesLaws kept → BytesLaws (λ r s. (lender r ≡ lender s) × kept (bytes r) (bytes s))
lent_bytes_laws bytes lender laws = record {
  still = λ r. (refl, laws.still (bytes r));
  onward = λ r s t p q. (p.0 ∙ q.0, laws.onward _ _ _ p.1 q.1);
}
