-- A log after one more record.
use Rattle.std.proofs.Common.{◌≡◌, ℕ, zero, suc, ◌+◌, ◌-◌, ◌/◌, ◌^◌, ◌<◌, ◌≤◌, min, true, cond, ◌&&◌, eqb, ltb, ◌≢◌, List, [], length, get_or, drop, set, Some, sym, refl, ap, ◌∙◌, subst, ⊎_elim, add-one, arith, length-drop, length-set, length-take}
use Rattle.std.specs.List.{replace_range}
use borrow.Rule.Slice.PartMut.{put_mid}
use Rattle.std.proofs.lemmas.List.{ext_get_or, get_or-take, get_or-drop, get_or-set_same, get_or-set_other}
use Rattle.std.proofs.lemmas.Bool.{and_from, lt-ltb, cases_eq}
use Rattle.device.proofs.Overwritten.{replace_range-put_mid}
use Rattle.words.specs.BigEndian.{bytes16, bytes32}
use Rattle.words.proofs.Overwritten.{length-put, put_below, put_inside, put_above, be16-put, be32-put}
use Rattle.append_log.specs.declared.head.Head.{Head}
use Rattle.append_log.specs.Records.{used, total, start, number, body, in_range, valid, head_of, latest, room_of, log_blocks, log_room, OnlyAppends, Appended}
use Rattle.append_log.proofs.Heads.{told}
use Rattle.append_log.specs.Replayed.{valid_is, valid_parts, head_of-valid, length-valid, get_or-log_blocks, latest_same, latest_other}

-- two bodies with the same bytes
body_at : (xs : List ℕ) (k i : ℕ) → i < 512 → get_or (body xs k) i 0 ≡ get_or xs (start k + 2 + i) 0
body_at xs k i h = get_or-take 512 (drop (start k + 2) xs) i 0 h ∙ get_or-drop (start k + 2) xs i 0

length-body : (xs : List ℕ) (k : ℕ) → start k + 514 ≤ length xs → length (body xs k) ≡ 512
length-body xs k h = simp (length-take, length-drop) (omega arith)

-- the three writes of a record: its number, its bytes, and the count of records
module _ (xs source : List ℕ) (n b : ℕ) (fits : start n + 514 ≤ length xs) (whole : length source ≡ 512) (small : b < 65536) (countable : n + 1 < 2 ^ 32) where
  abbrev numbered : List ℕ
  numbered = put_mid (start n) 2 xs (bytes16 b)

  abbrev filled : List ℕ
  filled = put_mid (start n + 2) 512 numbered source

  abbrev written : List ℕ
  written = put_mid 0 4 filled (bytes32 (n + 1))

  length-numbered : length numbered ≡ length xs
  length-numbered = length-put xs (bytes16 b) (start n) 2 (omega arith) refl

  length-filled : length filled ≡ length xs
  length-filled = length-put numbered source (start n + 2) 512 (omega (arith, length-numbered)) whole ∙ length-numbered

  -- past the head only the second write, and before it the first, touch a byte
  past_head : (i : ℕ) → 4 ≤ i → get_or written i 0 ≡ get_or filled i 0
  past_head i h = put_above filled (bytes32 (n + 1)) 0 4 (omega (arith, length-filled)) refl i (omega arith)

  below_body : (i : ℕ) → i < start n + 2 → get_or filled i 0 ≡ get_or numbered i 0
  below_body i h = put_below numbered source (start n + 2) 512 (omega (arith, length-numbered)) whole i h

  same_number : (i : ℕ) → start n ≤ i → i < start n + 2 → get_or written i 0 ≡ get_or numbered i 0
  same_number i g h = past_head i (omega arith) ∙ below_body i h

  appended : Appended xs written n b source
  appended = record {
    len = sym (length-put filled (bytes32 (n + 1)) 0 4 (omega (arith, length-filled)) refl ∙ length-filled);
    counted = be32-put filled 0 4 (n + 1) (omega (arith, length-filled)) refl countable;
    old = λ i g h. sym (past_head i g ∙ below_body i (omega arith) ∙ put_below xs (bytes16 b) (start n) 2 (omega arith) refl i (omega arith));
    block = let hi = same_number (start n) (omega arith) (omega arith) in let lo = same_number (start n + 1) (omega arith) (omega arith) in let v = be16-put xs (start n) 2 b (omega arith) refl small in omega arith;
    holds =
        ext_get_or 0 (body written n) source
        (let len = length-put filled (bytes32 (n + 1)) 0 4 (omega (arith, length-filled)) refl in length-body written n (omega (arith, length-filled)) ∙ sym whole)
        (λ i h.
        let g : i < 512 = omega (arith, simp length-take at h) in
        body_at written n i g
        ∙ past_head (start n + 2 + i) (omega arith)
        ∙ put_inside numbered source (start n + 2) 512 (omega (arith, length-numbered)) whole i (start n + 2 + i) (omega arith) (omega arith));
    beyond = λ i h.
        sym
        (past_head i (omega arith)
        ∙ put_above numbered source (start n + 2) 512 (omega (arith, length-numbered)) whole i (omega arith)
        ∙ put_above xs (bytes16 b) (start n) 2 (omega arith) refl i (omega arith));
  }

  -- by what each write was given, and where
  pub appended_by : (at : ℕ) (number count ys zs ws : List ℕ) → at ≡ start n → number ≡ bytes16 b → count ≡ bytes32 (n + 1) → ys ≡ replace_range xs at (at + length number) number → zs ≡ replace_range ys (at + 2) (at + 2 + length source) source → ws ≡ replace_range zs 0 (0 + length count) count → Appended xs ws n b source
  appended_by at number count ys zs ws e f g p q r =
      let ys_is : ys ≡ numbered = p ∙ ap (λ bs. replace_range xs at (at + length bs) bs) f ∙ ap (λ i. replace_range xs i (i + 2) (bytes16 b)) e ∙ replace_range-put_mid xs (bytes16 b) (start n) 2 in
      let zs_is : zs ≡ filled =
      q
      ∙ ap (λ us. replace_range us (at + 2) (at + 2 + length source) source) ys_is
      ∙ ap (λ i. replace_range numbered (i + 2) (i + 2 + length source) source) e
      ∙ ap (λ k. replace_range numbered (start n + 2) (start n + 2 + k) source) whole
      ∙ replace_range-put_mid numbered source (start n + 2) 512
      in
      let ws_is : ws ≡ written = r ∙ ap (λ us. replace_range us 0 (0 + length count) count) zs_is ∙ ap (λ bs. replace_range filled 0 (0 + length bs) bs) g ∙ replace_range-put_mid filled (bytes32 (n + 1)) 0 4 in
      subst (λ (us : List ℕ). Appended xs us n b source) (sym ws_is) appended

-- a valid log with one record more, for one of its blocks
module _ (xs ys source : List ℕ) (b : ℕ) (a : Appended xs ys (used xs) b source) (v : valid xs ≡ true) (l : b < total xs) (fits : start (used xs) + 514 ≤ length xs) where
  same_total : total ys ≡ total xs
  same_total = let hi = a.old 4 (omega arith) (omega arith) in let lo = a.old 5 (omega arith) (omega arith) in omega arith

  same_number_of : (k : ℕ) → k < used xs → number ys k ≡ number xs k
  same_number_of k h = let hi = a.old (start k) (omega arith) (omega arith) in let lo = a.old (start k + 1) (omega arith) (omega arith) in omega arith

  same_body : (k : ℕ) → k < used xs → body ys k ≡ body xs k
  same_body k h =
      let n = a.len in
      ext_get_or 0 (body ys k) (body xs k)
      (length-body ys k (omega arith) ∙ sym (length-body xs k (omega arith)))
      (λ i m. let g : i < 512 = omega (arith, simp length-take at m) in body_at ys k i g ∙ sym (a.old (start k + 2 + i) (omega arith) (omega arith)) ∙ sym (body_at xs k i g))

  same_latest : (n j : ℕ) → n ≤ used xs → latest ys n j ≡ latest xs n j
  same_latest zero j h = refl
  same_latest (suc k) j h =
      ap (λ m. cond (eqb m j) (body ys k) (latest ys k j)) (same_number_of k (omega arith))
      ∙ ap (λ bs. cond (eqb (number xs k) j) bs (latest ys k j)) (same_body k (omega arith))
      ∙ ap (cond (eqb (number xs k) j) (body xs k)) (same_latest k j (omega arith))

  same_in_range : (n : ℕ) → n ≤ used xs → in_range ys n ≡ in_range xs n
  same_in_range zero h = refl
  same_in_range (suc k) h =
      ap (λ t. t && ltb (number ys k) (total ys)) (same_in_range k (omega arith))
      ∙ ap (λ m. in_range xs k && ltb m (total ys)) (same_number_of k (omega arith))
      ∙ ap (λ m. in_range xs k && ltb (number xs k) m) same_total

  one_more : used ys ≡ suc (used xs)
  one_more = a.counted ∙ add-one (used xs)

  valid-after : valid ys ≡ true
  valid-after =
      let n = a.len in
      let u = a.counted in
      let old : in_range ys (used xs) ≡ true = same_in_range (used xs) (omega arith) ∙ (valid_parts xs v).2 in
      let last : number ys (used xs) < total ys = omega (arith, a.block, same_total) in
      valid_is ys (omega arith) (omega arith) ∙ ap (in_range ys) one_more ∙ and_from _ _ old (lt-ltb (number ys (used xs)) (total ys) last)

  head-after : (head : Head) → head.used ≡ used xs → head.count ≡ total xs → Some (record { used = head.used + 1; count = head.count }) ≡ head_of ys
  head-after head u n =
      ap (λ k. Some (record { used = k + 1; count = head.count })) u
      ∙ ap (λ k. Some (record { used = used xs + 1; count = k })) n
      ∙ ap (λ k. Some (record { used = k; count = total xs })) (sym a.counted)
      ∙ ap (λ k. Some (record { used = used ys; count = k })) (sym same_total)
      ∙ sym (head_of-valid ys valid-after)

  block_at_lem : (j : ℕ) → j < length (log_blocks ys) → get_or (log_blocks ys) j [] ≡ get_or (set (log_blocks xs) b source) j []
  block_at_lem j h =
      let m : j < length (log_blocks xs) = omega (arith, length-valid ys valid-after, length-valid xs v, same_total) in
      let lb : b < length (log_blocks xs) = omega (arith, length-valid xs v) in
      get_or-log_blocks ys j [] h
      ∙ ap (λ n. latest ys n j) a.counted
      ∙ ⊎_elim
      (λ (e : j ≡ b). latest_same ys (used xs) j (a.block ∙ sym e) ∙ a.holds ∙ sym (ap (λ k. get_or (set (log_blocks xs) b source) k []) e ∙ get_or-set_same (log_blocks xs) b source [] lb))
      (λ (ne : j ≢ b).
      let other : number ys (used xs) ≢ j = omega (arith, a.block) in
      latest_other ys (used xs) j other ∙ same_latest (used xs) j (omega arith) ∙ sym (get_or-set_other (log_blocks xs) b j source [] ne ∙ get_or-log_blocks xs j [] m))
      (cases_eq j b)

  blocks_after : log_blocks ys ≡ set (log_blocks xs) b source
  blocks_after =
      ext_get_or [] (log_blocks ys) (set (log_blocks xs) b source)
      (length-valid ys valid-after ∙ same_total ∙ sym (simp length-set (length-valid xs v)))
      block_at_lem

  room_after : 0 < log_room xs → log_room ys + 1 ≡ log_room xs
  room_after h =
      let r : log_room ys ≡ min ((length ys - 6) / 514 - (used xs + 1)) (4294967295 - (used xs + 1)) = ap (room_of (length ys)) (sym (head-after (record { used = used xs; count = total xs }) refl refl)) in
      let s : log_room xs ≡ min ((length xs - 6) / 514 - used xs) (4294967295 - used xs) = ap (room_of (length xs)) (head_of-valid xs v) in
      let n = a.len in
      omega arith

  only_appends : OnlyAppends xs ys
  only_appends = record {
    len = a.len;
    grows = omega (arith, a.counted);
    records = a.old;
    beyond = λ i h. let u = a.counted in a.beyond i (omega arith);
  }

-- what one record more comes to, for a head that was kept
pub record Grown (xs ys : List ℕ) (head : Head) (b : ℕ) (source : List ℕ) : Type 0 where
  pub checked : Some (record { used = head.used + 1; count = head.count }) ≡ head_of ys
  pub sets : log_blocks ys ≡ set (log_blocks xs) b source
  pub keeps : OnlyAppends xs ys
  pub costs : log_room ys + 1 ≡ log_room xs
  pub appends : Appended xs ys (used xs) b source

pub grown : (xs ys source : List ℕ) (b : ℕ) (head : Head) → Some head ≡ head_of xs → b < head.count → 0 < log_room xs → Appended xs ys head.used b source → Grown xs ys head b source
grown xs ys source b head e l some_room p =
    let t = told xs head e in
    let a : Appended xs ys (used xs) b source = subst (λ (n : ℕ). Appended xs ys n b source) t.records p in
    let m : b < total xs = omega arith in
    let fits : start (used xs) + 514 ≤ length xs = omega arith in
    record {
      checked = head-after xs ys source b a t.is_valid m fits head t.records t.many;
      sets = blocks_after xs ys source b a t.is_valid m fits;
      keeps = only_appends xs ys source b a t.is_valid m fits;
      costs = room_after xs ys source b a t.is_valid m fits some_room;
      appends = a;
    }
