-- Every page in a history is as it should be.
use Rattle.std.proofs.Common.{◌≡◌, ℕ, suc, ◌-◌, ◌^◌, ◌<◌, ◌≤◌, Bool, false, ltb, List, [], ◌∷◌, length, Some, None, Option, sym, refl, ap, ◌∙◌, subst, subst₂, arith}
use Rattle.std.specs.List.{AllByRecursion}
use Rattle.std.proofs.ByRecursion.{All-weaker}
use Rattle.std.proofs.lemmas.Bool.{ltb-false, or_parts, not-false, ne_eqb}
use Rattle.kinds.specs.Kinds.{Kind}
use Rattle.pages.specs.Pages.{shown, is_end, following, used}
use Rattle.pages.specs.Contents.{page_records}
use Rattle.pages.proofs.Readback.{page_back}
use Rattle.model.specs.declared.refusal.Refusal.{Refusal}
use Rattle.model.specs.Refusals.{first_of}
use Rattle.model.specs.Names.{is_bad_bookmark}
use Rattle.model.specs.Indexes.{folder_records}
use Rattle.model.specs.Calls.{State, idle, live, Call, page, PageAnswer, page_given, refused, Outcome}
use Rattle.model.specs.Reasons.{reasons}
use Rattle.model.specs.Steps.{serve, settled, step}
use Rattle.model.specs.Soundness.{KeepsLaws, SoundState}
use Rattle.model.specs.Histories.{Brought, Event, event, history}
use Rattle.model.proofs.Numbers.{falling_below}
use Rattle.model.proofs.Facts.{lawful_name, registered, folder_some, children}
use Rattle.model.proofs.Kept.{none_hold, keep_step}
use Rattle.listings.specs.Listings.{AllComplete, ListingLaw}
use Rattle.listings.proofs.Rises.{Mark}
use Rattle.listings.proofs.Shown.{Showing, showing, load-fitting}
use Rattle.listings.proofs.Listed.{Known, Fair, complete, middle}

module _ (k : Kind) (l : KeepsLaws k) (count : ℕ) where
  mark : (b : List ℕ) → is_bad_bookmark k b ≡ false → Mark k b
  mark [] h = tt
  mark (x ∷ xs) h = lawful_name k (x ∷ xs) (rw (ne_eqb (suc (length xs)) 0 (λ e. omega arith)) at h)

  refused_not : {X : Type 0} (why : Refusal) (a : PageAnswer) → refused why ≡ page_given a → X
  refused_not why a e = absurd (cc)

  fair_page : (f : ℕ) (b : List ℕ) (buffer : List ℕ) (allowance : ℕ) (s : State) → SoundState k count s → (rs : List (List ℕ)) (end : Bool) (a : PageAnswer)
      → (step k count (page f b) buffer allowance s).0 ≡ page_given a → a.end ≡ end → page_records (step k count (page f b) buffer allowance s).1 ≡ rs
      → Known k l f b (event k count s (record { call = page f b; buffer = buffer; allowance = allowance })) rs end
  fair_page f b buffer allowance (idle image) s rs end a e m r = refused_not _ a e
  fair_page f b buffer allowance (live t out) s rs end a e₀ m r₀ = go (first_of (reasons k count (length buffer) allowance (live t out) (page f b))) refl e₀ r₀
    where
      all : Outcome
      all = serve k count buffer (live t out) (page f b)

      go : (v : Option Refusal) → first_of (reasons k count (length buffer) allowance (live t out) (page f b)) ≡ v
          → (settled v buffer (live t out) all).0 ≡ page_given a
          → page_records (settled v buffer (live t out) all).1 ≡ rs
          → Known k l f b (record { call = page f b; answer = (settled v buffer (live t out) all).0; buffer = (settled v buffer (live t out) all).1; left = (settled v buffer (live t out) all).2 }) rs end
      go (Some why) h e r = refused_not why a e
      go None h e r =
          let free = none_hold (reasons k count (length buffer) allowance (live t out) (page f b)) h in
          let short : length buffer ≤ 4096 = ltb-false 4096 (length buffer) (or_parts (ltb (length buffer) 64) (ltb 4096 (length buffer)) free.1.0).1 in
          let folder = folder_some k count t s f (not-false _ free.1.1.1.0) in
          let index = folder_records k t.objects f in
          let below = s.next in
          let q = showing k l t.objects f (children k count t s f folder.0)
          (All-weaker (λ o. o.number < t.next) (λ o. o.number < 2 ^ 32) (λ o p. omega arith) t.objects (falling_below t.next t.objects s.falling))
          (registered k count t s) b (length buffer - 4) (mark b free.1.1.0) in
          let small : used (shown k b (length buffer) index) < 65536 = omega (arith, load-fitting k l (length buffer - 4) (following k b index)) in
          let x : shown k b (length buffer) index ≡ rs = sym (page_back (shown k b (length buffer) index) (is_end k b (length buffer) index) buffer small) ∙ r in
          let y : is_end k b (length buffer) index ≡ end = ap (λ (z : PageAnswer). z.end) (answer-is _ _ e) ∙ m in
          record {
            mark = mark b free.1.1.0;
            tree = t;
            out = out;
            left = refl;
            shown = subst₂ (λ v w. Showing k l t.objects f b v w) x y q;
          }
        where
          answer-is : (c d : PageAnswer) → page_given c ≡ page_given d → c ≡ d
          answer-is c d z = cc

  fair : (c : Brought) (s : State) → SoundState k count s → Fair k l (event k count s c)
  fair c s h f b rs end p =
      let P : Call → Type 0 = λ d. (step k count d c.buffer c.allowance s).0 ≡ page_given p.answer
      → p.answer.end ≡ end → page_records (step k count d c.buffer c.allowance s).1 ≡ rs → Known k l f b (event k count s (record { call = d; buffer = c.buffer; allowance = c.allowance })) rs end in
      subst P (sym p.asked) (fair_page f b c.buffer c.allowance s h rs end p.answer) p.served p.mark p.shown

  fair_all : (s : State) (cs : List Brought) → SoundState k count s → AllByRecursion (Fair k l) (history k count s cs)
  fair_all s [] h = tt
  fair_all s (c ∷ cs) h = (fair c s h, fair_all (event k count s c).left cs (keep_step k l count c.call c.buffer c.allowance s h))

  -- every listing from a sound state on is complete
  pub listings : (s : State) → SoundState k count s → (calls : List Brought) → AllComplete k (history k count s calls)
  listings s h calls before es later f listed e t =
      complete k l f es listed t (middle k l (Fair k l) before es later (let P : List Event → Type 0 = AllByRecursion (Fair k l) in subst P e (fair_all s calls h)))

pub listing_law : ListingLaw
listing_law k l count image s calls = listings k l count (idle image) s calls
