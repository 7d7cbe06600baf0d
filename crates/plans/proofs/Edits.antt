-- Putting and removing a located key, as changes of its bucket's records.
use Rattle.std.proofs.Common.{◌≡◌, ℕ, zero, suc, ◌+◌, ◌-◌, ◌/◌, ◌^◌, ◌<◌, ◌≤◌, true, leb, List, [], ◌∷◌, ◌++◌, length, take, drop, Ok, Err, Result, MatchResult, sym, ap, ◌∙◌, subst, arith}
use Rattle.std.specs.List.{insert, remove}
use Rattle.std.proofs.lemmas.Bool.{and_parts, leb-true}
use Rattle.kinds.specs.Kinds.{Kind, TotalOrder, AlikeHash, Bounded}
use Rattle.records.specs.Records.{is_record, key_of, weight, load}
use Rattle.records.specs.Items.{records_in}
use Rattle.records.specs.Searches.{Sorted, PlacedAt}
use Rattle.records.specs.Ordered.{put, without, alike}
use Rattle.records.proofs.Halved.{none_alike}
use Rattle.records.proofs.Alike.{alike-found, alike-absent}
use Rattle.shape.specs.Shapes.{under, prefix_of}
use Rattle.shape.specs.Keyed.{by_key}
use Rattle.index.specs.Stored.{Blocks, room_at, Stored}
use Rattle.index.proofs.Reading.{alike-under, sorted_under, slot_below, bucket-light}
use Rattle.plans.specs.declared.located.Located.{Located}
use Rattle.plans.specs.Locating.{LocatedIn}
use Rattle.plans.specs.Editing.{Cleared, Edited}
use Rattle.plans.proofs.Counts.{few_records}
use Rattle.plans.proofs.Puts.{sorted_put, sorted_without, under-put-on, under-put-off, under-without, without-off, without_found, put_new, put-over, length-put, length_without}
use Rattle.plans.proofs.Places.{slot_prefix_of}

load-append : (xs ys : List (List ℕ)) → load (xs ++ ys) ≡ load xs + load ys
load-append [] ys = omega arith
load-append (x ∷ xs) ys = omega (arith, load-append xs ys)

load_cut : (n : ℕ) (xs : List (List ℕ)) → load (take n xs) + load (drop n xs) ≡ load xs
load_cut zero xs = omega arith
load_cut (suc n) [] = omega arith
load_cut (suc n) (x ∷ xs) = omega (arith, load_cut n xs)

load_next : (n : ℕ) (xs : List (List ℕ)) → load (drop (suc n) xs) ≤ load (drop n xs)
load_next zero [] = omega arith
load_next zero (x ∷ xs) = omega arith
load_next (suc n) [] = omega arith
load_next (suc n) (x ∷ xs) = load_next n xs

pub load-removed : (xs : List (List ℕ)) (n : ℕ) → load (remove xs n) ≤ load xs
load-removed xs n = omega (arith, load-append (take n xs) (drop (suc n) xs), load_cut n xs, load_next n xs)

pub load_inserted : (xs : List (List ℕ)) (n : ℕ) (r : List ℕ) → load (insert xs n r) ≡ load xs + weight r
load_inserted xs n r = omega (arith, load-append (take n xs) (r ∷ drop n xs), load_cut n xs)

-- a bucket with a record more is not so heavy that it would be split in many
pub put-load : (place : Result ℕ ℕ) (xs base : List (List ℕ)) (n : ℕ) (r : List ℕ) → Cleared place xs base n → load xs ≤ 504 → is_record r ≡ true → load (insert base n r) ≤ 1008
put-load place xs base n r e l ir =
    let short : length r ≤ 52 = leb-true _ _ (and_parts _ _ (and_parts (leb 2 (length r)) _ ir).1).0 in
    omega (arith, short, less place e, load_inserted base n r)
  where
    less : (place : Result ℕ ℕ) → Cleared place xs base n → load base ≤ load xs
    less (Ok m) e = omega (arith, ap load e.0, load-removed xs m)
    less (Err m) e = omega (arith, ap load e.0)

-- a lawful key of a lawful kind was located in a stored index
pub record Found (kind : Kind) (blocks : Blocks) (head : ℕ) (rs : List (List ℕ)) (key : List ℕ) (at : Located) : Type 0 where
  pub ordered : TotalOrder kind.lawful kind.order
  pub level : AlikeHash kind
  pub bounded : Bounded kind
  pub stored : Stored kind blocks head rs
  pub lawful : kind.lawful key ≡ true
  pub located : LocatedIn kind blocks head rs key at

module _ {kind : Kind} {blocks : Blocks} {head : ℕ} {rs : List (List ℕ)} {key : List ℕ} {at : Located} (f : Found kind blocks head rs key at) where
  pub at_small : at.branch.slot < 128
  at_small = subst (λ n. n < 128) (sym f.located.slot) (slot_below (kind.hash key) (f.bounded.narrow key f.lawful))

  prefix_of_lem : (j : ℕ) → prefix_of j (kind.hash key) ≡ at.branch.slot / 2 ^ j
  prefix_of_lem j = slot_prefix_of j (kind.hash key) ∙ ap (λ n. n / 2 ^ j) (sym f.located.slot)

  xs_sorted : Sorted kind (records_in at.block)
  xs_sorted = subst (Sorted kind) (sym f.located.holds) (sorted_under kind at.branch.room (at.branch.slot / 2 ^ at.branch.room) rs f.stored.sorted)

  alike_xs : alike kind key (records_in at.block) ≡ alike kind key rs
  alike_xs = ap (alike kind key) (f.located.holds ∙ ap (λ p. under (by_key kind) at.branch.room p rs) (sym (prefix_of_lem at.branch.room))) ∙ alike-under kind f.level key f.lawful at.branch.room rs f.stored.sorted

  abbrev xs : List (List ℕ)
  xs = records_in at.block

  -- the key was found
  module _ (n : ℕ) (pl : PlacedAt kind xs key (Ok n)) where
    pub alike_there : length (alike kind key rs) ≡ 1
    alike_there = ap length (sym alike_xs ∙ alike-found kind f.ordered f.level key f.lawful xs xs_sorted n pl.1 pl.2)

    pub edited_without : (count : ℕ) → count ≡ length rs - 1 → Edited kind blocks head rs (without kind key rs) at (remove xs n) count
    edited_without count c = record {
      stored = f.stored;
      read = f.located.header;
      slot = at_small;
      room = f.located.room;
      number = f.located.number;
      sorted = sorted_without kind f.ordered key f.lawful rs f.stored.sorted;
      differ = λ j p ne. sym (under-without kind f.ordered key f.lawful j p rs ∙ without-off kind f.ordered key f.lawful j p rs f.stored.sorted (λ e. ne (e ∙ prefix_of_lem j)));
      there =
          sym (without_found kind f.ordered f.level key f.lawful xs xs_sorted n (omega (arith, pl.1)) pl.0 pl.1 pl.2)
          ∙ ap (without kind key) f.located.holds ∙ sym (under-without kind f.ordered key f.lawful at.branch.room (at.branch.slot / 2 ^ at.branch.room) rs);
      counted = omega (arith, c, length_without kind f.ordered f.level key f.lawful rs f.stored.sorted, alike_there);
    }

  pub alike_not_there : (n : ℕ) → PlacedAt kind xs key (Err n) → alike kind key rs ≡ []
  alike_not_there n pl = sym alike_xs ∙ alike-absent kind f.ordered f.level key f.lawful xs xs_sorted (none_alike kind f.ordered xs xs_sorted key f.lawful f.level n pl.0 pl.2)

  -- put of a record with the key
  module _ (r : List ℕ) (ir : is_record r ≡ true) (same : key_of r ≡ key) where
    lr : kind.lawful (key_of r) ≡ true
    lr = subst (λ a. kind.lawful a ≡ true) (sym same) f.lawful

    put-here : (place : Result ℕ ℕ) (base : List (List ℕ)) (n : ℕ) → PlacedAt kind xs key place → Cleared place xs base n → insert base n r ≡ put kind r xs
    put-here (Ok m) base n pl e = ap (λ ys. insert ys n r) e.0 ∙ ap (λ j. insert (remove xs m) j r) e.1 ∙ sym (put-over kind f.ordered f.level key f.lawful xs xs_sorted m (omega (arith, pl.1)) pl.0 r same pl.1 pl.2)
    put-here (Err m) base n pl e = ap (λ ys. insert ys n r) e.0 ∙ ap (λ j. insert xs j r) e.1 ∙ sym (put_new kind f.ordered f.level key f.lawful xs xs_sorted m pl.1 pl.0 r same pl.2)

    counted-put : (place : Result ℕ ℕ) (count : ℕ) → PlacedAt kind xs key place → MatchResult place (λ _. count ≡ at.count) (λ _. count ≡ at.count + 1) → count ≡ length (put kind r rs)
    counted-put (Ok m) count pl c = omega (arith, c, f.located.count, length-put kind f.ordered f.level key f.lawful r same rs f.stored.sorted, alike_there m pl)
    counted-put (Err m) count pl c = omega (arith, c, f.located.count, length-put kind f.ordered f.level key f.lawful r same rs f.stored.sorted, ap length (alike_not_there m pl))

    pub edited-put : (base : List (List ℕ)) (n count : ℕ) → Cleared at.place xs base n
        → MatchResult at.place (λ _. count ≡ at.count) (λ _. count ≡ at.count + 1) → Edited kind blocks head rs (put kind r rs) at (insert base n r) count
    edited-put base n count e c = record {
      stored = f.stored;
      read = f.located.header;
      slot = at_small;
      room = f.located.room;
      number = f.located.number;
      sorted = sorted_put kind f.ordered r ir lr rs f.stored.sorted;
      differ = λ j p ne. sym (under-put-off kind f.ordered r ir lr j p rs f.stored.sorted (λ e. ne (e ∙ ap (λ a. prefix_of j (kind.hash a)) same ∙ prefix_of_lem j)));
      there =
          put-here at.place base n f.located.placed e ∙ ap (put kind r) f.located.holds
          ∙ sym (under-put-on kind f.ordered r ir lr at.branch.room (at.branch.slot / 2 ^ at.branch.room) rs (ap (λ a. prefix_of at.branch.room (kind.hash a)) same ∙ prefix_of_lem at.branch.room));
      counted = counted-put at.place count f.located.placed c;
    }

  -- what is read at the key is that of a proper bucket
  pub at_light : load (records_in at.block) ≤ 504
  at_light =
      let k = room_at kind rs at.branch.slot in
      let light = bucket-light kind blocks head rs f.stored at.branch.slot at_small in
      omega (arith, light, ap load (f.located.holds ∙ ap (λ n. under (by_key kind) n (at.branch.slot / 2 ^ n) rs) f.located.room))

  pub at_few : at.count < 4294967295
  at_few = omega (arith, f.located.count, few_records kind f.bounded rs f.stored.sorted f.stored.held)
