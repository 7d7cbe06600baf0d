-- A block that passes the checks is the bucket of its own records, and only such a block does.
use Rattle.std.proofs.Common.{◌≡◌, ℕ, zero, suc, ◌+◌, ◌-◌, ◌<◌, ◌≤◌, true, List, length, Less, sym, ap, ◌∙◌, subst, arith}
use Rattle.kinds.specs.Kinds.{Kind, TotalOrder, position}
use Rattle.kinds.proofs.Positions.{less_onward, position-total}
use Rattle.records.specs.Items.{records_in}
use Rattle.records.specs.Records.{load}
use Rattle.records.specs.Searches.{key_at, Sorted}
use Rattle.buckets.specs.declared.prefix.Prefix.{Prefix}
use Rattle.buckets.specs.Prefixes.{is_prefix}
use Rattle.buckets.specs.Blocks.{bucket_bytes}
use Rattle.buckets.specs.Buckets.{BucketOf, IsBucket, FitsAt}
use Rattle.buckets.proofs.Held.{records_back}

-- neighbours in rising position are all in rising position
module _ (kind : Kind) (o : TotalOrder kind.lawful kind.order) (prefix : Prefix) (rs : List (List ℕ)) (fit : (n : ℕ) → n < length rs → FitsAt kind prefix rs n) where
  next : (m : ℕ) → m + 1 < length rs → position kind (key_at rs m) (key_at rs (m + 1)) ≡ Less
  next m l = let e : m + 1 - 1 ≡ m = omega arith in subst (λ (k : ℕ). position kind (key_at rs k) (key_at rs (m + 1)) ≡ Less) e ((fit (m + 1) l).after (omega arith))

  climb : (m k : ℕ) → m + suc k < length rs → position kind (key_at rs m) (key_at rs (m + suc k)) ≡ Less
  climb m zero h = let e : m + 1 ≡ m + suc 0 = omega arith in subst (λ (j : ℕ). position kind (key_at rs m) (key_at rs j) ≡ Less) e (next m (omega arith))
  climb m (suc k) h =
      let e : (m + suc k) + 1 ≡ m + suc (suc k) = omega arith in
      let step = next (m + suc k) (omega arith) in
      let up =
      less_onward (position-total kind o) (key_at rs m) (key_at rs (m + suc k)) (key_at rs ((m + suc k) + 1)) (fit m (omega arith)).lawful (fit (m + suc k) (omega arith)).lawful (fit ((m + suc k) + 1) (omega arith)).lawful (climb m k (omega arith)) (grind arith)
      in
      subst (λ (j : ℕ). position kind (key_at rs m) (key_at rs j) ≡ Less) e up

  pub sorted_from_fit : Sorted kind rs
  sorted_from_fit = record {
    whole = λ n l. (fit n l).whole;
    keyed = λ n l. (fit n l).lawful;
    rising = λ m n h l. let e : m + suc (n - m - 1) ≡ n = omega arith in subst (λ (j : ℕ). position kind (key_at rs m) (key_at rs j) ≡ Less) e (climb m (n - m - 1) (omega arith));
  }

module _ (kind : Kind) (prefix : Prefix) (block : List ℕ) (b : IsBucket kind prefix block) where
  own_records : b.0 ≡ records_in block
  own_records = sym (ap records_in b.1.bytes ∙ records_back prefix b.0 b.1.light)

  own : BucketOf kind prefix (records_in block) block
  own = subst (λ (rs : List (List ℕ)). BucketOf kind prefix rs block) own_records b.1

  pub rebuilt_from-bucket : (load (records_in block) ≤ 504) × (block ≡ bucket_bytes prefix (records_in block))
  rebuilt_from-bucket = (own.light, own.bytes)

  pub fit_from-bucket : (n : ℕ) → n < length (records_in block) → FitsAt kind prefix (records_in block) n
  fit_from-bucket n l = record {
    whole = own.sorted.whole n l;
    lawful = own.sorted.keyed n l;
    under = own.under n l;
    after = λ h. own.sorted.rising (n - 1) n (omega arith) l;
  }

module _ (kind : Kind) (o : TotalOrder kind.lawful kind.order) (prefix : Prefix) (block : List ℕ) where
  pub bucket_from : is_prefix prefix ≡ true → (load (records_in block) ≤ 504) × (block ≡ bucket_bytes prefix (records_in block)) → ((n : ℕ) → n < length (records_in block) → FitsAt kind prefix (records_in block) n) → IsBucket kind prefix block
  bucket_from proper whole fit = (
    records_in block,
    record { proper = proper; sorted = sorted_from_fit kind o prefix (records_in block) fit; under = λ n l. (fit n l).under; light = whole.0; bytes = whole.1 },
  )
