-- An index of no records.
use Rattle.std.proofs.Common.{◌≡◌, ℕ, ◌/◌, ◌^◌, ◌<◌, true, List, [], ◌∷◌, length, get_or, set, replicate, sym, refl, ap, ◌∙◌, subst, arith, length-set}
use Rattle.std.proofs.lemmas.List.{ext_get_or, length-replicate, get_or-replicate, get_or-set_same, get_or-set_other}
use Rattle.std.proofs.lemmas.Bool.{le-leb}
use Rattle.kinds.specs.Kinds.{Kind}
use Rattle.records.proofs.Rising.{rising_sorted}
use Rattle.buckets.specs.Blocks.{bucket_bytes}
use Rattle.header.specs.Headers.{Lawful, RunAt, Encodes, deepest}
use Rattle.header.proofs.Blocks.{slots_read, deep_read}
use Rattle.header.proofs.RunsLaws.{runs_one, rooms_one, small_each, runs_each}
use Rattle.shape.specs.Shapes.{under, is_light}
use Rattle.shape.specs.Buckets.{leaves}
use Rattle.shape.specs.Keyed.{by_key}
use Rattle.shape.proofs.Loads.{load_none}
use Rattle.shape.proofs.Rooms.{room_takes}
use Rattle.shape.proofs.Leaves.{leaves_light}
use Rattle.index.specs.Stored.{Blocks, block, slots, rooms, room_at, bucket_for, bucket_at, prefix_at, Stored, pointers}
use Rattle.index.proofs.Reading.{length-slots, get_or-slots, length-rooms, get_or-rooms, slot_small}
use Rattle.changes.specs.Creating.{Creatable, Created}

none_under : (kind : Kind) (k p : ℕ) → under (by_key kind) k p [] ≡ []
unfolding under
none_under kind k p = refl

none_light : (kind : Kind) (k p : ℕ) → is_light (by_key kind) k p [] ≡ true
none_light kind k p = le-leb _ _ (omega (arith, load_none (by_key kind) k p))

module _ (kind : Kind) where
  room-all : (s : ℕ) → room_at kind [] s ≡ 7
  room-all s = room_takes (by_key kind) 6 [] s (none_light kind 7 (s / 2 ^ 7))

  rooms-all : rooms kind [] ≡ replicate 128 7
  rooms-all = ext_get_or 0 (rooms kind []) (replicate 128 7) (length-rooms kind [] ∙ sym (length-replicate {A = ℕ} 128 7))
      (λ s l. let m : s < 128 = omega (arith, l, length-rooms kind []) in get_or-rooms kind [] s m ∙ room-all s ∙ sym (get_or-replicate 128 s 7 0 m))

  bucket_none : (s : ℕ) → s < 128 → bucket_for kind [] s ≡ bucket_bytes (prefix_at 7 0) []
  bucket_none s l =
      ap (λ k. bucket_at kind [] k (s / 2 ^ k)) (room-all s) ∙ ap (bucket_at kind [] 7) (slot_small s l) ∙ ap (bucket_bytes (prefix_at 7 0)) (none_under kind 7 0)

lawful_one : (bucket : ℕ) → Lawful 0 (replicate 128 bucket) (replicate 128 7)
lawful_one bucket = record {
  count_fits = omega arith;
  slots_long = length-replicate 128 bucket;
  rooms_long = length-replicate {A = ℕ} 128 7;
  small = small_each (replicate 128 7) rooms_one;
  runs = runs_each (replicate 128 bucket) (replicate 128 7) (runs_one bucket);
}

module _ (before after : Blocks) (allowed head bucket : ℕ) (empty header : List ℕ) (w : Creatable before allowed head bucket)
    (e : empty ≡ bucket_bytes (prefix_at 7 0) []) (enc : Encodes 0 (deepest (replicate 128 7)) (replicate 128 bucket) header)
    (sets : after ≡ set (set before bucket empty) head header) where
  top : block after head ≡ header
  top = ap (λ d. block d head) sets ∙ get_or-set_same (set before bucket empty) head header [] (omega (arith, w.top, length-set before bucket empty))

  low : block after bucket ≡ empty
  low = ap (λ d. block d bucket) sets ∙ get_or-set_other (set before bucket empty) head bucket header [] (λ z. w.apart (sym z)) ∙ get_or-set_same before bucket empty [] w.low

  long : length after ≡ length before
  long = ap length sets ∙ length-set (set before bucket empty) head header ∙ length-set before bucket empty

  told : slots header ≡ replicate 128 bucket
  told = slots_read 0 (replicate 128 bucket) (replicate 128 7) header (lawful_one bucket) enc (get_or header 1 0) (slots header) (deep_read 0 (replicate 128 bucket) (replicate 128 7) header (lawful_one bucket) enc) (length-slots header) (get_or-slots header)

  at : (s : ℕ) → s < 128 → get_or (slots header) s 0 ≡ bucket
  at s l = ap (λ xs. get_or xs s 0) told ∙ get_or-replicate 128 s bucket 0 l

  module _ (kind : Kind) where
    stored-none : Stored kind after head []
    stored-none = record {
      sorted = rising_sorted kind [] tt;
      held = λ q z. omega (arith, load_none (by_key kind) 0 q);
      countable = omega arith;
      inside = omega (arith, w.top, long);
      header = subst (λ x. Encodes 0 (deepest (rooms kind [])) (slots x) x) (sym top) (subst (λ xs. Encodes 0 (deepest (rooms kind [])) xs header) (sym told) (subst (λ rs. Encodes 0 (deepest rs) (replicate 128 bucket) header) (sym (rooms-all kind)) enc));
      within = subst (λ x. (s : ℕ) → s < 128 → get_or (slots x) s 0 < length after) (sym top) (λ s l. omega (arith, at s l, w.low, long));
      leads = subst (λ x. (s : ℕ) → s < 128 → block after (get_or (slots x) s 0) ≡ bucket_for kind [] s) (sym top) (λ s l. ap (block after) (at s l) ∙ low ∙ e ∙ sym (bucket_none kind s l));
      runs = subst (λ x. (s : ℕ) → s < 128 → RunAt (slots x) (room_at kind [] s) s) (sym top)
          (subst (λ xs. (s : ℕ) → s < 128 → RunAt xs (room_at kind [] s) s) (sym told)
          (λ s l. subst (λ k. RunAt (replicate 128 bucket) k s) (get_or-replicate 128 s 7 0 l ∙ sym (room-all kind s)) ((lawful_one bucket).runs s l)));
      beside = subst (λ x. (s : ℕ) → s < 128 → get_or (slots x) s 0 ≡ head → ⊥) (sym top) (λ s l z. w.apart (sym (sym (at s l) ∙ z)));
    }

    pub created : Created kind before after head bucket
    created = record {
      stored = stored-none;
      lies =
          ap (λ h. head ∷ pointers h (leaves (by_key kind) 7 0 [])) top ∙ ap (λ ls. head ∷ pointers header ls) (leaves_light (by_key kind) 7 0 [] (none_light kind 7 0))
          ∙ ap (λ n. head ∷ n ∷ []) (at 0 (omega arith));
      kept = λ b nh nb. ap (λ d. block d b) sets ∙ get_or-set_other (set before bucket empty) head b header [] nh ∙ get_or-set_other before bucket b empty [] nb;
      count = long;
    }
