-- `try_fold` over a range into an `Option`, said of the numbers in the range.
use Rattle.std.proofs.Common.{◌≡◌, ℕ, ◌+◌, ◌<◌, ◌≤◌, List, [], ◌∷◌, Option, None, Some, ControlFlow, MatchOption, refl, sym, ◌∙◌, subst, arith}
use denote.Param.Members.{Mut}
use Rattle.std.specs.declared.ops.Range.{Range}
use Rattle.std.specs.ControlFlow.{continue_value}
use Rattle.std.specs.Fn.{Called}
use Rattle.std.specs.List.{FoldsTo}
use Rattle.std.specs.Iterator.{Yields, YieldsThen, TryFoldTurn}
use Rattle.std.proofs.iter.Yields.{nat_range_steps}

-- what holds of a total at a place holds of the next total at the next place
module _ (E : Type 0) {F : Type 0} (g : Mut F (ℕ × (ℕ × Unit {0})) (Option ℕ)) (f : F) (end : ℕ) (Holds : ℕ → ℕ → Type 0)
    (keeps : (x a c : ℕ) (v : Option ℕ) (f' : F) → x < end → Holds x a → Called g f (a, (x, tt)) v f' → v ≡ Some c → (f' ≡ f) × Holds (x + 1) c) where
  abbrev Turn : F × ℕ → ℕ → F × ℕ → Type 0
  Turn = TryFoldTurn g (λ v (k : ControlFlow E ℕ). v ≡ continue_value k)

  walk : (xs : List ℕ) (s t : Range ℕ) (a : ℕ) (q : F × ℕ) → s.end ≡ end → s.start ≤ end → Yields nat_range_steps s xs t → FoldsTo Turn (f, a) xs q → Holds s.start a
      → (q.0 ≡ f) × (t.end ≡ end) × (t.start ≤ end) × Holds t.start q.1
  walk [] s t a q e l y c h = subst (λ (v : Range ℕ × (F × ℕ)). (v.1.0 ≡ f) × (v.0.end ≡ end) × (v.0.start ≤ end) × Holds v.0.start v.1.1) {x = (s, (f, a))} {y = (t, q)} (λ i. (y i, c i)) (refl, e, l, h)
  walk (x ∷ xs) s t a q e l y c h =
      let m = keeps x a c.0.1 c.1.0 c.0.0 (omega (arith, y.1.1.0, y.1.1.1)) (subst (λ n. Holds n a) (sym y.1.1.1) h) c.1.1 c.1.2 in
      let n : x + 1 ≡ y.0.start = omega (arith, y.1.1.1, y.1.1.2) in
      let on = subst (λ (v : F × ℕ). FoldsTo Turn v xs q) {x = c.0} {y = (f, c.0.1)} (λ i. (m.0 i, c.0.1)) c.2 in
      walk xs y.0 t c.0.1 q (y.1.0 ∙ e) (omega (arith, y.1.1.0, y.1.1.2)) y.2 on (subst (λ k. Holds k c.0.1) n m.1)

  module _ (init : ℕ) (first : Holds 0 init) (r : Option ℕ) (Fails : Type 0) (fails : (x a : ℕ) (f' : F) → x < end → Holds x a → Called g f (a, (x, tt)) None f' → Fails) where
    -- it came to the end with a total, or broke off at an item
    abbrev Stops : Option ℕ → F → ℕ → Type 0
    Stops o f' a = MatchOption o (r ≡ Some a) (λ x. (v : Option ℕ) × (h : F) × (e : E) × Called g f' (a, (x, tt)) v h × (v ≡ None) × (r ≡ None))

    ends : (xs : List ℕ) (o : Option ℕ) (f' : F) (a : ℕ) (u : Range ℕ) → YieldsThen nat_range_steps (record { start = 0; end = end }) xs o u → FoldsTo Turn (f, init) xs (f', a)
        → Stops o f' a → MatchOption r Fails (Holds end)
    ends xs o f' a u y c m = at o y.2 m
      where
        w : (f' ≡ f) × (y.0.end ≡ end) × (y.0.start ≤ end) × Holds y.0.start a
        w = walk xs (record { start = 0; end = end }) y.0 init (f', a) refl (omega arith) y.1 c first

        at : (o : Option ℕ) → nat_range_steps y.0 o u → Stops o f' a → MatchOption r Fails (Holds end)
        at None z m = let e : y.0.start ≡ end = omega (arith, w.1, w.2, z.1.0) in rw m (subst (λ n. Holds n a) e w.3)
        at (Some x) z m =
            let call = subst (λ (p : F × Option ℕ). Called g p.0 (a, (x, tt)) p.1 m.1) {x = (f', m.0)} {y = (f, None)} (λ i. (w.0 i, m.4 i)) m.3 in
            rw m.5 (fails x a m.1 (omega (arith, w.1, z.1.0, z.1.1)) (subst (λ n. Holds n a) (sym z.1.1) w.3) call)

    -- r is a total that holds at the end, or there is an item at which it fails
    pub tried : (u : Range ℕ) → (xs : List ℕ) × (o : Option ℕ) × (f' : F) × (a : ℕ) × YieldsThen nat_range_steps (record { start = 0; end = end }) xs o u × FoldsTo Turn (f, init) xs (f', a)
        × Stops o f' a → MatchOption r Fails (Holds end)
    tried u d = ends d.0 d.1 d.2 d.3 u d.4 d.5 d.6
