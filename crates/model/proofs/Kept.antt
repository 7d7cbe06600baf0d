-- Every call leaves a sound tree where it found one.
use Rattle.std.proofs.Common.{◌≡◌, ℕ, ◌≤◌, true, false, List, [], ◌∷◌, length, Some, None, Option, refl, inl, ⊎_elim, arith}
use Rattle.std.specs.List.{AllByRecursion}
use Rattle.std.proofs.lemmas.Bool.{ltb-false, leb-false, or_parts, and_parts, and_cases, not-false}
use Rattle.kinds.specs.Kinds.{Kind}
use Rattle.records.specs.Ordered.{put, before, after}
use Rattle.shape.specs.Shapes.{prefix_of, under, buckets}
use Rattle.shape.specs.Holding.{is_held}
use Rattle.model.specs.declared.refusal.Refusal.{Refusal}
use Rattle.model.specs.Refusals.{Reason, first_of}
use Rattle.model.specs.Trees.{Tree, child_of, has_folder, has, number_at, fresh, created, removed, renamed}
use Rattle.model.specs.Indexes.{blocks_in_use, is_held_tree, folder_records, register_records}
use Rattle.model.specs.Calls.{State, idle, live, Call, format, open', lookup, create, remove, rename, tally, lease, page, close}
use Rattle.model.specs.Reasons.{reasons}
use Rattle.model.specs.Steps.{serve, settled, step}
use Rattle.model.specs.Soundness.{KeepsLaws, Sound, SoundState}
use Rattle.model.specs.Histories.{Brought, event, history}
use Rattle.model.proofs.Finds.{by_test, never, none_passes}
use Rattle.model.proofs.Space.{decides_held_tree}
use Rattle.model.proofs.Facts.{folder_some, found_as, barren}
use Rattle.model.proofs.Changes.{sound-created, sound-removed}
use Rattle.model.proofs.Renames.{sound_renamed}

-- where no reason counts, none holds
pub none_hold : (rs : List Reason) → first_of rs ≡ None → AllByRecursion (λ r. r.1 ≡ false) rs
none_hold [] e = tt
none_hold (r ∷ rs) e =
    by_test r.1 (λ h. let z : Some r.0 ≡ None = rw h at e in absurd (cc)) (λ h. (h, none_hold rs (rw h at e)))

held_fresh : (k : Kind) → is_held_tree k fresh ≡ true
unfolding is_held_tree is_held register_records folder_records put before after under prefix_of
held_fresh k = refl

blocks_fresh : (k : Kind) → blocks_in_use k fresh ≡ 6
unfolding blocks_in_use buckets register_records folder_records put before after under prefix_of
blocks_fresh k = refl

pub sound_fresh : (k : Kind) (count : ℕ) → 16 ≤ count → Sound k count fresh
sound_fresh k count h = record {
  next = omega arith;
  falling = (omega arith, tt);
  positive = (omega arith, tt);
  rooted = refl;
  placed = (inl refl, tt);
  kinds = (refl, tt);
  leads = ((0, refl), tt);
  apart = (tt, tt);
  held = (decides_held_tree k fresh).0 (held_fresh k);
  room = omega (arith, blocks_fresh k);
}

module _ (k : Kind) (l : KeepsLaws k) (count : ℕ) (t : Tree) (s : Sound k count t) (out size allowance : ℕ) where
  abbrev None_of : Call → Type 0
  None_of c = first_of (reasons k count size allowance (live t out) c) ≡ None

  keep_create : (f : ℕ) (n : List ℕ) (kind : ℕ) → None_of (create f n kind) → Sound k count (created t f n kind)
  keep_create f n kind e =
      let free = none_hold (reasons k count size allowance (live t out) (create f n kind)) e in
      sound-created k l count t s f n kind free.1.1.0 free.1.1.1.0 (not-false _ free.1.1.1.1.0) free.1.1.1.1.1.0
      (leb-false _ _ free.1.1.1.1.1.1.0) ((decides_held_tree k (created t f n kind)).0 (not-false _ free.1.1.1.1.1.1.1.0)) (ltb-false _ _ free.1.1.1.1.1.1.1.1.0)

  keep_remove : (f : ℕ) (n : List ℕ) → None_of (remove f n) → Sound k count (removed t (number_at k t f n))
  keep_remove f n e =
      let free = none_hold (reasons k count size allowance (live t out) (remove f n)) e in
      let x = number_at k t f n in
      let folder = folder_some k count t s f (not-false _ free.1.1.1.0) in
      let was = found_as k count t s f n folder.0 (not-false _ free.1.1.1.1.0) in
      let leaf : AllByRecursion (λ o. child_of x o ≡ false) t.objects =
      ⊎_elim (λ (h : has_folder x t ≡ false). barren k count t s x was.some h) (λ (h : has (child_of x) t ≡ false). none_passes (child_of x) t.objects h) (and_cases _ _ free.1.1.1.1.1.0) in
      sound-removed k l count t s x was.some was.other leaf

  keep_rename : (f : ℕ) (n : List ℕ) (g : ℕ) (m : List ℕ) → None_of (rename f n g m) → Sound k count (renamed t (number_at k t f n) g m)
  keep_rename f n g m e =
      let free = none_hold (reasons k count size allowance (live t out) (rename f n g m)) e in
      let x = number_at k t f n in
      let folders = and_parts _ _ (not-false _ free.1.1.1.0) in
      let was = found_as k count t s f n (folder_some k count t s f folders.0).0 (not-false _ free.1.1.1.1.0) in
      sound_renamed k l count t s f x g m was (or_parts _ _ free.1.1.0).1 folders.1 free.1.1.1.1.1.0 free.1.1.1.1.1.1.0
      ((decides_held_tree k (renamed t x g m)).0 (not-false _ free.1.1.1.1.1.1.1.0)) (ltb-false _ _ free.1.1.1.1.1.1.1.1.0)

module _ (k : Kind) (l : KeepsLaws k) (count : ℕ) where
  format_kept : (s : State) (size allowance : ℕ) → first_of (reasons k count size allowance s format) ≡ None → Sound k count fresh
  format_kept s size allowance e =
      sound_fresh k count (ltb-false count 16 (or_parts _ _ (none_hold (reasons k count size allowance s format) e).1.0).0)

  keep_live : (t : Tree) (out : ℕ) (buffer : List ℕ) (allowance : ℕ) (c : Call) → Sound k count t → first_of (reasons k count (length buffer) allowance (live t out) c) ≡ None
      → SoundState k count (serve k count buffer (live t out) c).2
  keep_live t out buffer allowance format s e = format_kept (live t out) (length buffer) allowance e
  keep_live t out buffer allowance open' s e = s
  keep_live t out buffer allowance (lookup f n) s e = s
  keep_live t out buffer allowance (create f n kind) s e = keep_create k l count t s out (length buffer) allowance f n kind e
  keep_live t out buffer allowance (remove f n) s e = keep_remove k l count t s out (length buffer) allowance f n e
  keep_live t out buffer allowance (rename f n g m) s e = keep_rename k l count t s out (length buffer) allowance f n g m e
  keep_live t out buffer allowance tally s e = s
  keep_live t out buffer allowance (lease f) s e = s
  keep_live t out buffer allowance (page f b) s e = s
  keep_live t out buffer allowance (close f) s e = s

  keep_idle : (image : Option Tree) (buffer : List ℕ) (allowance : ℕ) (c : Call) → SoundState k count (idle image) → first_of (reasons k count (length buffer) allowance (idle image) c) ≡ None
      → SoundState k count (serve k count buffer (idle image) c).2
  keep_idle image buffer allowance format s e = format_kept (idle image) (length buffer) allowance e
  keep_idle None buffer allowance open' s e =
      let h = none_hold (reasons k count (length buffer) allowance (idle None) open') e in never true refl h.1.1.0
  keep_idle (Some t) buffer allowance open' s e = s
  keep_idle image buffer allowance (lookup f n) s e = s
  keep_idle image buffer allowance (create f n kind) s e =
      never true refl (none_hold (reasons k count (length buffer) allowance (idle image) (create f n kind)) e).0
  keep_idle image buffer allowance (remove f n) s e =
      never true refl (none_hold (reasons k count (length buffer) allowance (idle image) (remove f n)) e).0
  keep_idle image buffer allowance (rename f n g m) s e =
      never true refl (none_hold (reasons k count (length buffer) allowance (idle image) (rename f n g m)) e).0
  keep_idle image buffer allowance tally s e = s
  keep_idle image buffer allowance (lease f) s e =
      never true refl (none_hold (reasons k count (length buffer) allowance (idle image) (lease f)) e).0
  keep_idle image buffer allowance (page f b) s e = s
  keep_idle image buffer allowance (close f) s e =
      never true refl (none_hold (reasons k count (length buffer) allowance (idle image) (close f)) e).0

  keep_serve : (s : State) (buffer : List ℕ) (allowance : ℕ) (c : Call) → SoundState k count s → first_of (reasons k count (length buffer) allowance s c) ≡ None
      → SoundState k count (serve k count buffer s c).2
  keep_serve (idle image) buffer allowance c h e = keep_idle image buffer allowance c h e
  keep_serve (live t out) buffer allowance c h e = keep_live t out buffer allowance c h e

  pub keep_step : (c : Call) (buffer : List ℕ) (allowance : ℕ) (s : State) → SoundState k count s → SoundState k count (step k count c buffer allowance s).2
  keep_step c buffer allowance s h = go (first_of (reasons k count (length buffer) allowance s c)) refl
    where
      go : (v : Option Refusal) → first_of (reasons k count (length buffer) allowance s c) ≡ v → SoundState k count (settled v buffer s (serve k count buffer s c)).2
      go None e = keep_serve s buffer allowance c h e
      go (Some why) e = h

  -- and so does every history
  pub keep_history : (s : State) → SoundState k count s → (bs : List Brought) → AllByRecursion (λ e. SoundState k count e.left) (history k count s bs)
  keep_history s h [] = tt
  keep_history s h (b ∷ bs) =
      let next = keep_step b.call b.buffer b.allowance s h in (next, keep_history (event k count s b).left next bs)
