-- A listing among events whose pages are as they should be is complete.
use Rattle.std.proofs.Common.{◌≡◌, ℕ, ◌+◌, Bool, true, false, List, [], ◌∷◌, ◌++◌, is_some, sym, refl, ap, ◌∙◌, subst, ⊎_elim, arith}
use Rattle.std.specs.List.{AllByRecursion}
use Rattle.std.proofs.ByRecursion.{All-append, All-weaker}
use Rattle.kinds.specs.Kinds.{Kind}
use Rattle.model.specs.Trees.{Tree, find, stands_as}
use Rattle.model.specs.Calls.{State, live}
use Rattle.model.specs.Soundness.{KeepsLaws}
use Rattle.model.specs.Histories.{Event}
use Rattle.model.proofs.Finds.{by_test}
use Rattle.listings.specs.Indexes.{named}
use Rattle.listings.specs.Listings.{object_under, is_in, Page, Listing, last, more, between, times, is_after, Rising, Shows, Complete}
use Rattle.listings.proofs.Rises.{Good, Mark, times_none, times_one, times-append, rising_append, last_mark, shown_not}
use Rattle.listings.proofs.Shown.{Showing}

module _ (k : Kind) (l : KeepsLaws k) where
  -- what is known of an event that is a page
  pub record Known (f : ℕ) (b : List ℕ) (e : Event) (rs : List (List ℕ)) (end : Bool) : Type 0 where
    pub mark : Mark k b
    pub tree : Tree
    pub out : ℕ
    pub left : e.left ≡ live tree out
    pub shown : Showing k l tree.objects f b rs end

  abbrev pub Fair : Event → Type 0
  Fair e = (f : ℕ) (b : List ℕ) (rs : List (List ℕ)) (end : Bool) → Page f b e rs end → Known f b e rs end

  -- what a listing lists, from a bookmark on
  pub record Lists (f : ℕ) (b : List ℕ) (es : List Event) (ss : List (List ℕ)) : Type 0 where
    pub lawful : Good k ss
    pub rising : Rising k b ss
    pub stays : (n : List ℕ) → k.lawful n ≡ true → is_after k b n ≡ true → AllByRecursion (λ e. is_in k f n e ≡ true) es → times k n ss ≡ 1
    pub absent : (n : List ℕ) → k.lawful n ≡ true → AllByRecursion (λ e. is_in k f n e ≡ false) es → times k n ss ≡ 0

  shows : (f : ℕ) (e : Event) → Fair e → (b : List ℕ) (rs : List (List ℕ)) (end : Bool) → Page f b e rs end → AllByRecursion (Shows k f e.left) rs
  shows f e h b rs end p =
      let q = h f b rs end p in
      let P : State → Type 0 = λ s. AllByRecursion (Shows k f s) rs in
      subst P (sym q.left) (All-weaker _ (Shows k f (live q.tree q.out)) (λ r t. record { in_folder = t.0; in_register = t.1 }) rs q.shown.held)

  in_tree : (f : ℕ) (b : List ℕ) (e : Event) (rs : List (List ℕ)) (end : Bool) (q : Known f b e rs end) (n : List ℕ) (v : Bool) → is_in k f n e ≡ v → is_some (find (stands_as k f n) q.tree.objects) ≡ v
  in_tree f b e rs end q n v h = let P : State → Type 0 = λ s. is_some (object_under k f n s) ≡ v in subst P q.left h

  lists : (f : ℕ) {b : List ℕ} {es : List Event} {ss : List (List ℕ)} → Listing f b es ss → AllByRecursion Fair es → Mark k b → Lists f b es ss
  lists f (last {b} {e} {rs} p) fair m =
      let q = fair.0 f b rs true p in
      record {
        lawful = q.shown.lawful;
        rising = q.shown.rising;
        stays = λ n w a i. ⊎_elim (λ s. times_one k l b n rs m w q.shown.lawful q.shown.rising s)
            (λ s. let z : true ≡ false = s.1 in cc)
            (q.shown.there n w (in_tree f b e rs true q n true i.0) a);
        absent = λ n w o. q.shown.absent n w (in_tree f b e rs true q n false o.0);
      }
  lists f (more {b} {e} {rs} {es} {ss} {end} p t) fair m =
      let q = fair.0 f b rs end p in
      let s = q.shown in
      let r = lists f t fair.1 (last_mark k l b rs m s.lawful) in
      record {
        lawful = All-append _ rs ss s.lawful r.lawful;
        rising = rising_append k l b rs ss s.rising r.rising;
        stays = λ n w a i. times-append k l n rs ss ∙
            ⊎_elim
            (λ h. ap (λ (x : ℕ). x + times k n ss) (times_one k l b n rs m w s.lawful s.rising h)
            ∙ ap (λ (x : ℕ). 1 + x) (shown_not k l b n rs ss m w s.lawful r.lawful s.rising r.rising h))
            (λ h. let one : times k n ss ≡ 1 = r.stays n w h.0 i.1 in
            let none : times k n rs ≡ 0 = by_test (is_some (find (named k n) rs))
            (λ y. let z : times k n ss ≡ 0 = shown_not k l b n rs ss m w s.lawful r.lawful s.rising r.rising y in omega arith)
            (λ y. times_none k l n rs y) in
            omega arith)
            (s.there n w (in_tree f b e rs end q n true i.0) a);
        absent = λ n w o. times-append k l n rs ss ∙ rw (s.absent n w (in_tree f b e rs end q n false o.0), r.absent n w o.1);
      }
  lists f (between {b} {e} {es} {rs} t) fair m =
      let r = lists f t fair.1 m in
      record {
        lawful = r.lawful;
        rising = r.rising;
        stays = λ n w a i. r.stays n w a i.1;
        absent = λ n w o. r.absent n w o.1;
      }

  -- a listing among fair events is complete
  pub complete : (f : ℕ) (es : List Event) (ss : List (List ℕ)) → Listing f [] es ss → AllByRecursion Fair es → Complete k f es ss
  complete f es ss t fair =
      let r = lists f t fair tt in
      record {
        stays = λ n w i. r.stays n w refl i;
        absent = r.absent;
        shows = All-weaker Fair _ (λ e h. shows f e h) es fair;
        rising = r.rising;
      }

  pub middle : (P : Event → Type 0) (a b c : List Event) → AllByRecursion P (a ++ (b ++ c)) → AllByRecursion P b
  middle P [] [] c h = tt
  middle P [] (e ∷ b) c h = (h.0, middle P [] b c h.1)
  middle P (e ∷ a) b c h = middle P a b c h.1
