use Rattle.std.proofs.Common.{◌≡◌, ℕ, zero, suc, ◌+◌, ◌-◌, ◌*◌, ◌/◌, ◌%◌, ◌^◌, ◌<◌, ◌≤◌, max, false, cond, ◌&&◌, eqb, ltb, leb, ◌≢◌, List, [], ◌∷◌, length, get_or, fold, Some, sym, refl, ap, ◌∙◌, subst, ⊎_elim, arith}
use Rattle.std.proofs.lemmas.List.{ext_get_or}
use Rattle.std.proofs.lemmas.Bool.Decides.{nat_tests}
use Rattle.std.proofs.lemmas.Bool.{cases_eq, cases_lt, eq-eqb, ne_eqb, eqb-true, lt-ltb, le-ltb, le-leb, and_from, and_right, cond-true, cond-false}
use Rattle.std.proofs.lemmas.Nat.{shl-shr, shr-shr, pow-add, div-add-mod', shr_le}
use Rattle.header.specs.Headers.{RunAt, IsRoom, deepest, byte_of, pointer_byte, slot_in, recounted, Encodes, Lawful}
use Rattle.header.proofs.RunsLaws.{up}
use Rattle.words.specs.BigEndian.{be32, bytes32}
use Rattle.words.proofs.Overwritten.{length-put, put_below, put_inside, put_above}
use borrow.Rule.Slice.PartMut.{put_mid}

fold_grows : (d : ℕ) (rs : List ℕ) → d ≤ fold (λ d r. max d (7 - r)) d rs
fold_grows d [] = omega arith
fold_grows d (r ∷ rs) = omega (arith, fold_grows (max d (7 - r)) rs)

fold_each : (d : ℕ) (rs : List ℕ) (i : ℕ) → i < length rs → 7 - get_or rs i 0 ≤ fold (λ d r. max d (7 - r)) d rs
fold_each d [] i l = absurd (omega arith)
fold_each d (r ∷ rs) zero l = omega (arith, fold_grows (max d (7 - r)) rs)
fold_each d (r ∷ rs) (suc i) l = fold_each (max d (7 - r)) rs i (omega arith)

fold_small : (d : ℕ) (rs : List ℕ) → d ≤ 7 → fold (λ d r. max d (7 - r)) d rs ≤ 7
fold_small d [] l = l
fold_small d (r ∷ rs) l = fold_small (max d (7 - r)) rs (omega arith)

pub deepest_small : (rooms : List ℕ) → deepest rooms ≤ 7
unfolding deepest
deepest_small rooms = fold_small 0 rooms (omega arith)

pub deepest_each : (rooms : List ℕ) (i : ℕ) → i < length rooms → 7 - get_or rooms i 0 ≤ deepest rooms
unfolding deepest
deepest_each rooms i l = fold_each 0 rooms i l

byte_past : (count d : ℕ) (slots : List ℕ) (i : ℕ) → 8 ≤ i → byte_of count d slots i ≡ pointer_byte slots ((i - 8) / 2 * (128 / 2 ^ d)) (i % 2)
byte_past count d slots i l =
    cond-false (eqb i 0) _ _ (ne_eqb i 0 (λ e. absurd (omega arith)))
    ∙ cond-false (eqb i 1) _ _ (ne_eqb i 1 (λ e. absurd (omega arith)))
    ∙ cond-false (ltb i 6) _ _ (le-ltb i 6 (omega arith))
    ∙ cond-false (ltb i 8) _ _ (le-ltb i 8 l)

pointer_high : (slots : List ℕ) (s : ℕ) → s < 128 → pointer_byte slots s 0 ≡ get_or slots s 0 / 256
pointer_high slots s l = cond-true (ltb s 128) _ _ (lt-ltb s 128 l)

pointer_low : (slots : List ℕ) (s : ℕ) → s < 128 → pointer_byte slots s 1 ≡ get_or slots s 0 % 256
pointer_low slots s l = cond-true (ltb s 128) _ _ (lt-ltb s 128 l)

run_len : (d : ℕ) → d ≤ 7 → 128 / 2 ^ d ≡ 2 ^ (7 - d)
run_len d l =
    let z : 7 - d + d ≡ 7 = omega arith in
    ap (λ n. n / 2 ^ d) (sym (ap (λ k. 2 ^ k) z) ∙ pow-add 2 (7 - d) d) ∙ shl-shr (2 ^ (7 - d)) d

pub same_lawful : {n m : ℕ} {a b c d : List ℕ} → n ≡ m → a ≡ b → c ≡ d → Lawful m b d → Lawful n a c
same_lawful e f g law = rw (e, f, g) law

pub encodes_same : (count d : ℕ) (slots a b : List ℕ) → Encodes count d slots a → Encodes count d slots b → a ≡ b
encodes_same count d slots a b p q =
    ext_get_or 0 a b (p.long ∙ sym q.long) (λ i l. let m : i < 512 = omega (arith, p.long) in p.bytes i m ∙ sym (q.bytes i m))

-- the count that a block has is read back
pub count_told : (count depth : ℕ) (slots block : List ℕ) → count < 2 ^ 32 → Encodes count depth slots block → be32 block 2 ≡ count
count_told count depth slots block c enc =
    let b2 : get_or block 2 0 ≡ count / 16777216 % 256 = enc.bytes 2 (omega arith) in
    let b3 : get_or block 3 0 ≡ count / 65536 % 256 = enc.bytes 3 (omega arith) in
    let b4 : get_or block 4 0 ≡ count / 256 % 256 = enc.bytes 4 (omega arith) in
    let b5 : get_or block 5 0 ≡ count / 1 % 256 = enc.bytes 5 (omega arith) in
    let s1 : count / 256 / 256 ≡ count / 65536 = shr-shr count 8 8 in
    let s2 : count / 65536 / 256 ≡ count / 16777216 = shr-shr count 16 8 in
    let d1 : count ≡ count / 256 * 256 + count % 256 = omega arith in
    let d2 : count / 256 ≡ count / 65536 * 256 + count / 256 % 256 = omega (arith, div-add-mod' (count / 256) 256) in
    let d3 : count / 65536 ≡ count / 16777216 * 256 + count / 65536 % 256 = omega (arith, div-add-mod' (count / 65536) 256) in
    let top : count / 16777216 % 256 ≡ count / 16777216 = omega arith in
    let one : count / 1 % 256 ≡ count % 256 = omega arith in
    omega (arith, b2, b3, b4, b5, d1, d2, d3, top, one)

-- the bytes of a count, as a block has them
byte32 : (count k : ℕ) → k < 4 → get_or (bytes32 count) k 0 ≡ count / 2 ^ (8 * (3 - k)) % 256
byte32 count zero l = refl
byte32 count (suc zero) l = refl
byte32 count (suc (suc zero)) l = refl
byte32 count (suc (suc (suc zero))) l = omega arith
byte32 count (suc (suc (suc (suc k)))) l = absurd (omega arith)

pub count_byte : (count i : ℕ) → 2 ≤ i → i < 6 → get_or (bytes32 count) (i - 2) 0 ≡ count / 2 ^ (8 * (5 - i)) % 256
count_byte count i low high =
    let e : 3 - (i - 2) ≡ 5 - i = omega arith in
    byte32 count (i - 2) (omega arith) ∙ ap (λ k. count / 2 ^ (8 * k) % 256) e

-- a block whose count is written anew, byte by byte
pub recount_bytes : (block : List ℕ) (count : ℕ) → length block ≡ 512 → (i : ℕ) → i < 512 → get_or (put_mid 2 4 block (bytes32 count)) i 0 ≡ recounted block count i
recount_bytes block count long i l =
    let fits : 2 + 4 ≤ length block = omega arith in
    ⊎_elim
    (λ (b : i < 2). put_below block (bytes32 count) 2 4 fits refl i b ∙ grind (arith, nat_tests))
    (λ (a : 2 ≤ i).
    ⊎_elim
    (λ (b : i < 6). put_inside block (bytes32 count) 2 4 fits refl (i - 2) i (omega arith) (omega arith) ∙ count_byte count i a b ∙ grind (arith, nat_tests))
    (λ (past : 6 ≤ i). put_above block (bytes32 count) 2 4 fits refl i past ∙ grind (arith, nat_tests))
    (cases_lt i 6))
    (cases_lt i 2)

-- outside its four bytes the count does not matter
byte_outside : (count old depth : ℕ) (slots : List ℕ) (i : ℕ) → ltb i 6 ≡ false → byte_of count depth slots i ≡ byte_of old depth slots i
byte_outside count old depth slots i past =
    let rest = cond (ltb i 8) 0 (pointer_byte slots ((i - 8) / 2 * (128 / 2 ^ depth)) (i % 2)) in
    ap (λ n. cond (eqb i 0) 2 (cond (eqb i 1) depth n)) (cond-false (ltb i 6) (count / 2 ^ (8 * (5 - i)) % 256) rest past ∙ sym (cond-false (ltb i 6) (old / 2 ^ (8 * (5 - i)) % 256) rest past))

recounted_is : (block : List ℕ) (count old depth : ℕ) (slots : List ℕ) (i : ℕ) → get_or block i 0 ≡ byte_of old depth slots i → recounted block count i ≡ byte_of count depth slots i
recounted_is block count old depth slots i e =
    ⊎_elim
    (λ (z : i ≡ 0). subst (λ j. get_or block j 0 ≡ byte_of old depth slots j → recounted block count j ≡ byte_of count depth slots j) (sym z) (λ h. h) e)
    (λ (nz : i ≢ 0).
    ⊎_elim
    (λ (o : i ≡ 1). subst (λ j. get_or block j 0 ≡ byte_of old depth slots j → recounted block count j ≡ byte_of count depth slots j) (sym o) (λ h. h) e)
    (λ (no : i ≢ 1).
    ⊎_elim
    (λ (b : i < 6).
    cond-true (leb 2 i && ltb i 6) _ _ (and_from _ _ (le-leb 2 i (omega arith)) (lt-ltb i 6 b))
    ∙ sym (cond-false (eqb i 0) _ _ (ne_eqb i 0 nz) ∙ cond-false (eqb i 1) _ _ (ne_eqb i 1 no) ∙ cond-true (ltb i 6) _ _ (lt-ltb i 6 b)))
    (λ (past : 6 ≤ i).
    let not : ltb i 6 ≡ false = le-ltb i 6 past in
    cond-false (leb 2 i && ltb i 6) _ _ (and_right (leb 2 i) (ltb i 6) not) ∙ e ∙ byte_outside old count depth slots i not)
    (cases_lt i 6))
    (cases_eq i 1))
    (cases_eq i 0)

pub recount_encodes : (block : List ℕ) (count old depth : ℕ) (slots : List ℕ) → Encodes old depth slots block → Encodes count depth slots (put_mid 2 4 block (bytes32 count))
recount_encodes block count old depth slots enc = record {
  long = length-put block (bytes32 count) 2 4 (omega (arith, enc.long)) refl ∙ enc.long;
  bytes = λ i l. recount_bytes block count enc.long i l ∙ recounted_is block count old depth slots i (enc.bytes i l);
}

pub some_number : {a b : ℕ} → Some a ≡ Some b → a ≡ b
some_number e = cc

module _ (count : ℕ) (slots rooms block : List ℕ) (law : Lawful count slots rooms) (enc : Encodes count (deepest rooms) slots block) where
  pub deep_read : get_or block 1 0 ≡ deepest rooms
  deep_read = enc.bytes 1 (omega arith)

  pub slot_read : (d : ℕ) → d ≡ deepest rooms → (i : ℕ) → i < 128 → slot_in block d i ≡ get_or slots i 0
  slot_read d e i l =
      let ds = deepest_small rooms in
      let small : d ≤ 7 = omega arith in
      let H = 2 ^ (7 - d) in
      let j = i / H in
      let jl : j ≤ i = shr_le i (7 - d) in
      let i0 = j * H in
      let dm = div-add-mod' i H in
      let il : i0 < 128 = omega arith in
      let enc' : Encodes count d slots block = subst (λ n. Encodes count n slots block) (sym e) enc in
      let rl = run_len d small in
      let x : (8 + 2 * j - 8) / 2 ≡ j = omega arith in
      let y : (8 + 2 * j + 1 - 8) / 2 ≡ j = omega arith in
      let u : (8 + 2 * j) % 2 ≡ 0 = omega arith in
      let v : (8 + 2 * j + 1) % 2 ≡ 1 = omega arith in
      let hi : get_or block (8 + 2 * j) 0 ≡ get_or slots i0 0 / 256
      = enc'.bytes (8 + 2 * j) (omega arith) ∙ byte_past count d slots (8 + 2 * j) (omega arith) ∙ ap (λ n. pointer_byte slots (n * (128 / 2 ^ d)) ((8 + 2 * j) % 2)) x ∙ ap (λ n. pointer_byte slots (j * n) ((8 + 2 * j) % 2)) rl ∙ ap (pointer_byte slots i0) u ∙ pointer_high slots i0 il in
      let lo : get_or block (8 + 2 * j + 1) 0 ≡ get_or slots i0 0 % 256
      = enc'.bytes (8 + 2 * j + 1) (omega arith) ∙ byte_past count d slots (8 + 2 * j + 1) (omega arith) ∙ ap (λ n. pointer_byte slots (n * (128 / 2 ^ d)) ((8 + 2 * j + 1) % 2)) y ∙ ap (λ n. pointer_byte slots (j * n) ((8 + 2 * j + 1) % 2)) rl ∙ ap (pointer_byte slots i0) v ∙ pointer_low slots i0 il in
      let R = get_or rooms i 0 in
      let deep = deepest_each rooms i (omega (arith, law.rooms_long)) in
      let rs = law.small i l in
      let near : i0 / 2 ^ R ≡ i / 2 ^ R = up (7 - d) R i i0 (omega arith) (shl-shr j (7 - d)) in
      let same : get_or slots i0 0 ≡ get_or slots i 0 = eqb-true _ _ (law.runs i l i0 il ∙ eq-eqb _ _ near) in
      omega arith

  pub slots_read : (d : ℕ) (read : List ℕ) → d ≡ deepest rooms → length read ≡ 128 → ((i : ℕ) → i < 128 → get_or read i 0 ≡ slot_in block d i) → read ≡ slots
  slots_read d read e long each =
      ext_get_or 0 read slots (long ∙ sym law.slots_long) (λ i l. let m : i < 128 = omega arith in each i m ∙ slot_read d e i m)

  -- what the readings of the block come to
  pub parts_read : (read found : List ℕ) → length read ≡ 128 → ((i : ℕ) → i < 128 → get_or read i 0 ≡ slot_in block (get_or block 1 0) i) → length found ≡ 128 → ((i : ℕ) → i < 128 → IsRoom read i (get_or found i 0)) → (read ≡ slots) × (found ≡ rooms)
  unfolding IsRoom
  parts_read read found long each long' only =
      let e = slots_read (get_or block 1 0) read deep_read long each in (
        e,
        ext_get_or 0 found rooms (long' ∙ sym law.rooms_long) (λ i l. let m : i < 128 = omega arith in only i m (get_or rooms i 0) (law.small i m) (subst (λ xs. RunAt xs (get_or rooms i 0) i) (sym e) (law.runs i m))),
      )

  pub law_read : (n : ℕ) (read found : List ℕ) → n ≡ count → read ≡ slots → found ≡ rooms → Lawful n read found
  law_read n read found a b c = same_lawful a b c law

  -- and writing them gives the block again
  pub block_again : (n : ℕ) (read found again : List ℕ) → n ≡ count → read ≡ slots → found ≡ rooms → Encodes n (deepest found) read again → again ≡ block
  block_again n read found again a b c e = encodes_same count (deepest rooms) slots again block (rw (a, b, c) at e) enc
