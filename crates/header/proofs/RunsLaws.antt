use Rattle.std.proofs.Common.{◌≡◌, ℕ, zero, suc, ◌+◌, ◌-◌, ◌/◌, ◌%◌, ◌^◌, ◌<◌, ◌≤◌, Bool, true, false, eqb, ltb, List, length, get_or, replicate, Decides, sym, refl, ap, ◌∙◌, subst, ⊎_elim, one-mul, arith}
use Rattle.std.proofs.lemmas.List.{get_or-replicate}
use Rattle.std.proofs.lemmas.Bool.{cases_eq, cases_lt, eq-eqb, ne_eqb, eqb-true, lt-ltb, le-ltb}
use Rattle.std.proofs.lemmas.Nat.{xor_shr, xor_mod, xor_lt, shl-shr, shr-shr, pow_below}
use Rattle.std.proofs.lemmas.Bool.Decides.{nat_tests}
use lib.Bits.{bit_xor, xor_zero_r}
use Rattle.header.specs.Headers.{Runs, RunAt, LawfulAt, LawfulNext, AllLawful, Lawful, together}

pub runs_one : (b : ℕ) → Runs (replicate 128 b) (replicate 128 7)
runs_one b s t =
    let ls : s % 128 < 128 = omega arith in
    let lt : t % 128 < 128 = omega arith in
    ap (λ x. eqb x (get_or (replicate 128 b) (s % 128) 0)) (get_or-replicate 128 (t % 128) b 0 lt)
    ∙ ap (λ x. eqb b x) (get_or-replicate 128 (s % 128) b 0 ls) ∙ eq-eqb b b refl
    ∙ sym (ap (λ r. together r (s % 128) (t % 128)) (get_or-replicate 128 (s % 128) 7 0 ls) ∙ eq-eqb _ _ (omega arith))

-- a slot with the bit k turned
flip_is : (s k : ℕ) → bit_xor s (2 ^ k) / 2 ^ k ≡ bit_xor (s / 2 ^ k) 1
flip_is s k = xor_shr s (2 ^ k) k ∙ ap (bit_xor (s / 2 ^ k)) (ap (λ n. n / 2 ^ k) (sym (one-mul (2 ^ k))) ∙ shl-shr 1 k)

low_flip : (b : ℕ) → b < 2 → bit_xor b 1 ≡ b → ⊥
low_flip b l e = ⊎_elim
    (λ z. let f : bit_xor 0 1 ≡ 0 = subst (λ n. bit_xor n 1 ≡ n) z e in absurd (omega arith))
    (λ nz. let o : b ≡ 1 = omega arith in let f : bit_xor 1 1 ≡ 1 = subst (λ n. bit_xor n 1 ≡ n) o e in absurd (omega arith))
    (cases_eq b 0)

flip_ne : (q : ℕ) → bit_xor q 1 ≡ q → ⊥
flip_ne q e = low_flip (q % 2 ^ 1) (omega arith) (sym (xor_mod q 1 1) ∙ ap (λ n. n % 2 ^ 1) e)

flip_half : (q : ℕ) → bit_xor q 1 / 2 ≡ q / 2
flip_half q = xor_shr q 1 1 ∙ xor_zero_r (q / 2)

pub buddy_inside : (s k : ℕ) → s < 128 → k < 7 → bit_xor s (2 ^ k) < 128
buddy_inside s k l h = xor_lt 7 s (2 ^ k) l (pow_below k 7 h)

pub buddy_apart : (s k : ℕ) → bit_xor s (2 ^ k) / 2 ^ k ≡ s / 2 ^ k → ⊥
buddy_apart s k e = flip_ne (s / 2 ^ k) (sym (flip_is s k) ∙ e)

pub buddy_near : (s k : ℕ) → bit_xor s (2 ^ k) / 2 ^ k / 2 ≡ s / 2 ^ k / 2
buddy_near s k = ap (λ n. n / 2) (flip_is s k) ∙ flip_half (s / 2 ^ k)

pub up : (a b s t : ℕ) → a ≤ b → t / 2 ^ a ≡ s / 2 ^ a → t / 2 ^ b ≡ s / 2 ^ b
up a b s t l e =
    let z : a + (b - a) ≡ b = omega arith in
    subst (λ n. t / 2 ^ n ≡ s / 2 ^ n) z (sym (shr-shr t a (b - a)) ∙ ap (λ n. n / 2 ^ (b - a)) e ∙ shr-shr s a (b - a))

-- higher up they stay together
near_up : (j k s t : ℕ) → k < j → t / 2 ^ k / 2 ≡ s / 2 ^ k / 2 → t / 2 ^ j ≡ s / 2 ^ j
near_up j k s t l e =
    let z : k + 1 + (j - (k + 1)) ≡ j = omega arith in
    subst (λ n. t / 2 ^ n ≡ s / 2 ^ n) z
    (sym (shr-shr t (k + 1) (j - (k + 1))) ∙ ap (λ n. n / 2 ^ (j - (k + 1))) (sym (shr-shr t k 1) ∙ e ∙ shr-shr s k 1) ∙ shr-shr s (k + 1) (j - (k + 1)))

-- the slot beside s is in its run where that leaves more than k bits
beside_run : (slots : List ℕ) (s k j : ℕ) → s < 128 → k < 7 → RunAt slots j s → eqb (get_or slots (bit_xor s (2 ^ k)) 0) (get_or slots s 0) ≡ ltb k j
beside_run slots s k j m l run = ⊎_elim
    (λ (b : k < j). run _ (buddy_inside s k m l) ∙ eq-eqb _ _ (near_up j k s _ b (buddy_near s k)) ∙ sym (lt-ltb k j b))
    (λ (a : j ≤ k). run _ (buddy_inside s k m l) ∙ ne_eqb _ _ (λ e. buddy_apart s k (up j k s _ a e)) ∙ sym (le-ltb k j a))
    (cases_lt k j)

-- the first number of bits whose slot beside s is of another bucket
pub room_told : (slots : List ℕ) (s r : ℕ) → s < 128 → r ≤ 7 → ((k : ℕ) → k < r → eqb (get_or slots (bit_xor s (2 ^ k)) 0) (get_or slots s 0) ≡ true) → (r < 7 → eqb (get_or slots (bit_xor s (2 ^ r)) 0) (get_or slots s 0) ≡ false) → (j : ℕ) → j ≤ 7 → RunAt slots j s → r ≡ j
room_told slots s r l small before here j le run = ⊎_elim
    (λ (b : j < r). let e = sym (before j b) ∙ beside_run slots s j j l (omega arith) run in absurd (grind (arith, nat_tests)))
    (λ (a : r ≤ j). ⊎_elim
    (λ (b : r < j). let e = sym (here (omega arith)) ∙ beside_run slots s r j l (omega arith) run in absurd (grind (arith, nat_tests)))
    (λ (c : j ≤ r). omega arith)
    (cases_lt r j))
    (cases_lt j r)

-- what holds of each number where it holds of all below
all_below : (P : ℕ → Type 0) (n : ℕ) → ((s : ℕ) → s < n → ((t : ℕ) → t < s → P t) → P s) → (s : ℕ) → s < n → P s
all_below P zero step s l = absurd (omega arith)
all_below P (suc n) step s l =
    let below = all_below P n (λ t b. step t (omega arith)) in
    step s l (λ t b. below t (omega arith))

pub rooms_one : (s : ℕ) → get_or (replicate 128 7) (s % 128) 0 ≤ 7
rooms_one s = let l : s % 128 < 128 = omega arith in omega (arith, get_or-replicate {A = ℕ} 128 (s % 128) 7 0 l)

pub all_next : (slots rooms : List ℕ) → ((s : ℕ) → s < 128 → LawfulNext slots rooms s) → (s : ℕ) → s < 128 → LawfulAt slots rooms s
unfolding LawfulNext
all_next slots rooms = all_below (LawfulAt slots rooms) 128

pub all_told : (slots rooms : List ℕ) → ((s : ℕ) → s < 128 → LawfulAt slots rooms s) → AllLawful slots rooms
unfolding AllLawful
all_told slots rooms all = all

-- what a test of a slot tells that holds good where those before it are lawful
pub next_told : (slots rooms : List ℕ) (s : ℕ) (r : Bool) → s < 128 → (((t : ℕ) → t < s → LawfulAt slots rooms t) → Decides r (LawfulAt slots rooms s)) → record { next : r ≡ true → LawfulNext slots rooms s; all : AllLawful slots rooms → r ≡ true }
unfolding LawfulNext AllLawful
next_told slots rooms s r l h = record {
  next = λ e before. (h before).0 e;
  all = λ all. (h (λ t b. all t (omega arith))).1 (all s l);
}

-- what a header keeps of each number modulo 128, it keeps of each slot
pub small_each : (rooms : List ℕ) → ((s : ℕ) → get_or rooms (s % 128) 0 ≤ 7) → (s : ℕ) → s < 128 → get_or rooms s 0 ≤ 7
small_each rooms h s l = let e : s % 128 ≡ s = omega arith in subst (λ i. get_or rooms i 0 ≤ 7) e (h s)

pub runs_each : (slots rooms : List ℕ) → Runs slots rooms → (s : ℕ) → s < 128 → RunAt slots (get_or rooms s 0) s
runs_each slots rooms h s l t m =
    let e : s % 128 ≡ s = omega arith in
    let f : t % 128 ≡ t = omega arith in
    subst (λ i. eqb (get_or slots t 0) (get_or slots i 0) ≡ together (get_or rooms i 0) i t) e (subst (λ j. eqb (get_or slots j 0) (get_or slots (s % 128) 0) ≡ together (get_or rooms (s % 128) 0) (s % 128) j) f (h s t))

pub lawful_parts : (count : ℕ) (slots rooms : List ℕ) → count < 2 ^ 32 → length slots ≡ 128 → length rooms ≡ 128 → ((s : ℕ) → get_or rooms (s % 128) 0 ≤ 7) → Runs slots rooms → Lawful count slots rooms
lawful_parts count slots rooms fits long long' small runs = record {
  count_fits = fits;
  slots_long = long;
  rooms_long = long';
  small = small_each rooms small;
  runs = runs_each slots rooms runs;
}

-- slots that share prefix and pointer have one run
pub run_moves : (slots : List ℕ) (k s t : ℕ) → t / 2 ^ k ≡ s / 2 ^ k → get_or slots t 0 ≡ get_or slots s 0 → RunAt slots k t → RunAt slots k s
run_moves slots k s t near same run u l =
    ap (λ p. eqb (get_or slots u 0) p) (sym same) ∙ run u l ∙ ap (λ n. eqb (u / 2 ^ k) n) near

-- a run leaves no other number of bits
no_longer : (slots : List ℕ) (s k j : ℕ) → s < 128 → k < j → j ≤ 7 → RunAt slots k s → RunAt slots j s → ⊥
no_longer slots s k j l below le run other =
    let t = bit_xor s (2 ^ k) in
    let m : t < 128 = buddy_inside s k l (omega arith) in
    buddy_apart s k (eqb-true _ _ (sym (run t m) ∙ other t m ∙ eq-eqb _ _ (near_up j k s t below (buddy_near s k))))

pub run_once : (slots : List ℕ) (s k j : ℕ) → s < 128 → k ≤ 7 → j ≤ 7 → RunAt slots k s → RunAt slots j s → k ≡ j
run_once slots s k j l small small' run other = ⊎_elim
    (λ (b : k < j). absurd (no_longer slots s k j l b small' run other))
    (λ (b : j ≤ k). ⊎_elim (λ (a : j < k). absurd (no_longer slots s j k l a small other run)) (λ (a : k ≤ j). omega arith) (cases_lt j k))
    (cases_lt k j)

-- a slot beside a lawful one, with the same prefix by its own room, is lawful where pointer and room are the same
pub run_beside : (slots rooms : List ℕ) (s t : ℕ) → t / 2 ^ get_or rooms s 0 ≡ s / 2 ^ get_or rooms s 0 → LawfulAt slots rooms t → get_or slots t 0 ≡ get_or slots s 0 → get_or rooms t 0 ≡ get_or rooms s 0 → LawfulAt slots rooms s
run_beside slots rooms s t near beside same level =
    (subst (λ k. k ≤ 7) level beside.0, run_moves slots (get_or rooms s 0) s t near same (subst (λ k. RunAt slots k t) level beside.1))

-- and only there
pub same_beside : (slots rooms : List ℕ) (s t : ℕ) → t < 128 → t / 2 ^ get_or rooms s 0 ≡ s / 2 ^ get_or rooms s 0 → LawfulAt slots rooms t → LawfulAt slots rooms s → (get_or slots t 0 ≡ get_or slots s 0) × (get_or rooms t 0 ≡ get_or rooms s 0)
same_beside slots rooms s t l near beside here =
    let same : get_or slots t 0 ≡ get_or slots s 0 = eqb-true _ _ (here.1 t l ∙ eq-eqb _ _ near) in
    (same, run_once slots t _ _ l beside.0 here.0 beside.1 (run_moves slots (get_or rooms s 0) t s (sym near) (sym same) here.1))
