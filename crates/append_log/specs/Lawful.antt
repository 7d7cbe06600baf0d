-- The laws of a device, for the blocks of a log.
use Rattle.std.specs.Prelude.{◌≡◌, ℕ, zero, suc, ◌<◌, ◌≤◌, true, false, List, [], length, Some, None, Option, ◌==◌, slice_index_or, refl}
use Rattle.std.proofs.Common.{ap, ◌∙◌, ⊎_elim, arith, length-take, length-drop}
use Rattle.std.proofs.lemmas.List.{length-replicate}
use Rattle.std.proofs.lemmas.Bool.{cond_both, cases_Bool}
use Rattle.device.specs.Laws.{Laws, BytesLaws}
use Rattle.append_log.specs.declared.head.Head.{Head}
use Rattle.append_log.specs.Records.{used, start, number, body, valid, head_of, latest, count_of, room_of, log_blocks, log_room, OnlyAppends}
use Rattle.append_log.specs.Replayed.{valid_parts, head_of-valid, head_of_not, length-log_blocks, get_or-log_blocks, valid-from-block}

length-latest : (xs : List ℕ) (n b : ℕ) → start n ≤ length xs → length (latest xs n b) ≡ 512
length-latest xs zero b h = length-replicate {A = ℕ} 512 0
length-latest xs (suc k) b h =
    let rest = length-latest xs k b (omega arith) in
    cond_both (number xs k == b) (body xs k) (latest xs k b) (λ ys. length ys ≡ 512) (λ e. simp (length-take, length-drop) (omega arith)) (λ e. rest)

sized_blocks : (xs : List ℕ) (b : ℕ) → b < length (log_blocks xs) → length (slice_index_or (log_blocks xs) b []) ≡ 512
sized_blocks xs b l = ap length (get_or-log_blocks xs b [] l) ∙ length-latest xs (used xs) b (valid_parts xs (valid-from-block xs b l)).1

countable_blocks : (xs : List ℕ) → length (log_blocks xs) < 65536
countable_blocks xs =
    let n = length-log_blocks xs in
    ⊎_elim (λ (v : valid xs ≡ true). omega (arith, ap count_of (head_of-valid xs v))) (λ (v : valid xs ≡ false). omega (arith, ap count_of (head_of_not xs v))) (cases_Bool (valid xs))

bounded_room : (n : ℕ) (head : Option Head) → room_of n head < 4294967296
bounded_room n None = omega arith
bounded_room n (Some head) = omega arith

pub appends_refl : (xs : List ℕ) → OnlyAppends xs xs
appends_refl xs = record { len = refl; grows = omega arith; records = λ i h l. refl; beyond = λ i h. refl }

appends_trans : (xs ys zs : List ℕ) → OnlyAppends xs ys → OnlyAppends ys zs → OnlyAppends xs zs
appends_trans xs ys zs p q = record {
  len = p.len ∙ q.len;
  grows = let a = p.grows in let b = q.grows in omega arith;
  records = λ i h l. let a = p.grows in p.records i h l ∙ q.records i h (omega arith);
  beyond = λ i h. let b = q.grows in p.beyond i (omega arith) ∙ q.beyond i h;
}

-- of any struct that holds the bytes
pub owned_laws : {S : Type 0} (bytes : S → List ℕ) → Laws (λ s. log_blocks (bytes s)) (λ s. log_room (bytes s)) (λ s t. OnlyAppends (bytes s) (bytes t))
owned_laws bytes = record {
  sized = λ s. sized_blocks (bytes s);
  countable = λ s. omega (arith, countable_blocks (bytes s));
  bounded = λ s. bounded_room (length (bytes s)) (head_of (bytes s));
  still = λ s. appends_refl (bytes s);
  onward = λ s t u. appends_trans (bytes s) (bytes t) (bytes u);
}

-- of any struct that holds bytes, its own or lent
module _ {S B : Type 0} {kept : B → B → Type 0} (held : S → B) (bytes : B → List ℕ) (laws : BytesLaws kept) where
  abbrev of : S → List ℕ
  of s = bytes (held s)

  pub log_laws : Laws (λ s. log_blocks (of s)) (λ s. log_room (of s)) (λ s t. kept (held s) (held t) × OnlyAppends (of s) (of t))
  log_laws =
      let o = owned_laws of in
      record {
        sized = o.sized;
        countable = o.countable;
        bounded = o.bounded;
        still = λ s. (laws.still (held s), o.still s);
        onward = λ s t u p q. (laws.onward _ _ _ p.0 q.0, o.onward s t u p.1 q.1);
      }

-- of any struct that holds a reference to the bytes, by the reference's name
pub lent_laws : {S N : Type 0} (bytes : S → List ℕ) (lender : S → N) → Laws (λ s. log_blocks (bytes s)) (λ s. log_room (bytes s)) (λ s t. (lender s ≡ lender t) × OnlyAppends (bytes s) (bytes t))
lent_laws bytes lender = log_laws {kept = λ s t. lender s ≡ lender t} (λ s. s) bytes (record { still = λ _. refl; onward = λ _ _ _ p q. p ∙ q })
