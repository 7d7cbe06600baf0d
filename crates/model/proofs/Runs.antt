-- The laws over runs that follow from soundness.
use Rattle.std.proofs.Common.{◌≡◌, ℕ, zero, suc, ◌+◌, ◌-◌, ◌<◌, ◌≤◌, true, eqb, List, length, ap, ◌∙◌, ⊎_elim, zero-add, arith}
use Rattle.std.proofs.ByRecursion.{All-weaker}
use Rattle.std.proofs.lemmas.Bool.{eqb-true, eq-eqb, or_cases, or_left, or_right, cases_lt}
use Rattle.kinds.specs.Kinds.{Kind}
use Rattle.model.specs.Trees.{Object, Tree, parent_of, climbed, is_above}
use Rattle.model.specs.Calls.{State, idle, live}
use Rattle.model.specs.Soundness.{Sound, SoundState}
use Rattle.model.specs.Histories.{history}
use Rattle.model.specs.Laws.{OfTree, OverRuns, StaysSound, ParentsLead, NamesApart, ImageFits, FullnessDecided, BranchDecided}
use Rattle.model.proofs.Climbs.{stays_none, steps_few}
use Rattle.model.proofs.Facts.{grounded}
use Rattle.model.proofs.Kept.{keep_history}
use Rattle.model.proofs.Space.{decides_held_tree}

over_runs : (P : Kind → ℕ → Tree → Type 0) → ((k : Kind) (count : ℕ) (t : Tree) → Sound k count t → P k count t) → OverRuns P
over_runs P h k l count image s calls = All-weaker _ _ (λ e q. of_tree e.left q) (history k count (idle image) calls) (keep_history k l count (idle image) s calls)
  where
    of_tree : (s : State) → SoundState k count s → OfTree (P k count) s
    of_tree (idle image) q = tt
    of_tree (live t out) q = h k count t q

pub stays_sound : StaysSound
stays_sound = over_runs (λ k count t. Sound k count t) (λ k count t s. s)

pub parents_lead : ParentsLead
parents_lead = over_runs _ (λ k count t s. s.leads)

pub names_apart : NamesApart
names_apart = over_runs _ (λ k count t s. s.apart)

pub image_fits : ImageFits
image_fits = over_runs _ (λ k count t s. (s.held, s.room))

pub fullness_decided : FullnessDecided
fullness_decided k t = decides_held_tree k t

climbed_add : (os : List Object) (d e n : ℕ) → climbed (d + e) os n ≡ climbed e os (climbed d os n)
climbed_add os zero e n = ap (λ (m : ℕ). climbed m os n) (zero-add e)
climbed_add os (suc d) e n = let z : suc d + e ≡ suc (d + e) = omega arith in ap (λ (m : ℕ). climbed m os n) z ∙ climbed_add os d e (parent_of os n)

above_climbs : (os : List Object) (fuel x n : ℕ) → is_above fuel os x n ≡ true → (d : ℕ) × (climbed d os n ≡ x)
above_climbs os zero x n e = (0, eqb-true n x e)
above_climbs os (suc fuel) x n e =
    ⊎_elim (λ h. (0, eqb-true n x h)) (λ h. let r = above_climbs os fuel x (parent_of os n) h in (suc r.0, r.1)) (or_cases (eqb n x) _ e)

climbs_above : (os : List Object) (fuel d x n : ℕ) → d ≤ fuel → climbed d os n ≡ x → is_above fuel os x n ≡ true
climbs_above os zero zero x n l e = eq-eqb n x e
climbs_above os zero (suc d) x n l e = absurd (omega arith)
climbs_above os (suc fuel) zero x n l e = or_left (eqb n x) _ (eq-eqb n x e)
climbs_above os (suc fuel) (suc d) x n l e = or_right (eqb n x) _ (climbs_above os fuel d x (parent_of os n) (omega arith) e)

pub branch_decided : BranchDecided
branch_decided k count t s x n p w = (above_climbs os (length os) x n, λ c. climbs_above os (length os) c.0 x n (within c.0 c.1) c.1)
  where
    os : List Object
    os = t.objects

    -- past the root there is nothing
    within : (d : ℕ) → climbed d t.objects n ≡ x → d ≤ length t.objects
    within d e =
        let g = grounded k count t s in
        let few = steps_few w.0 t.objects g n w.1 in
        ⊎_elim
        (λ (b : w.0 < d).
        let j = d - (w.0 + 1) in
        let z : d ≡ w.0 + suc j = omega arith in
        let past : climbed d t.objects n ≡ 0 =
        ap (λ (m : ℕ). climbed m t.objects n) z ∙ climbed_add t.objects w.0 (suc j) n ∙ ap (climbed (suc j) t.objects) w.1
        ∙ ap (climbed j t.objects) g.top ∙ stays_none t.objects g.none j in
        absurd (omega arith))
        (λ (b : d ≤ w.0). omega arith)
        (cases_lt w.0 d)
