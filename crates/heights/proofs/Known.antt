-- Facts about known heights.
use Rattle.std.proofs.Common.{◌≡◌, ℕ, Bool, true, false, cond, List, [], ◌∷◌, Some, Ordering, Less, Equal, Greater, refl, sym, ◌∙◌, ap, subst, arith}
use Rattle.std.proofs.lemmas.Bool.Decides.{nat_tests}
use Rattle.std.specs.BTreeMap.{insert_entry, is_at}
use Rattle.std.specs.Map.{lookup}
use Rattle.std.specs.Ordering.{match_ordering, is_eq, nat_cmp}
use Rattle.world.specs.declared.database.HirDatabase.{HirDatabase}
use Rattle.source_meaning.specs.Heights.{height_among, heights}
use Rattle.heights.specs.Known.{AreHeights}

same : (a b : ℕ) → is_eq (nat_cmp a b) ≡ true → a ≡ b
same a b tied = grind (arith, nat_tests)

module _ (world : HirDatabase) where
  abbrev height_at : ℕ → ℕ
  height_at place = height_among (heights world) (Some place)

  -- none is known yet
  pub none-known : (known : List (ℕ × ℕ)) → known ≡ [] → AreHeights world known
  unfolding AreHeights
  none-known known e = subst (λ (k : List (ℕ × ℕ)). AreHeights world k) (sym e) tt

  more-known : (entry : ℕ × ℕ) (known : List (ℕ × ℕ)) → height_at entry.0 ≡ entry.1 → AreHeights world known → AreHeights world (entry ∷ known)
  unfolding AreHeights
  more-known entry known is are = (is, are)

  first-known : (entry : ℕ × ℕ) (known : List (ℕ × ℕ)) → AreHeights world (entry ∷ known) → height_at entry.0 ≡ entry.1
  unfolding AreHeights
  first-known entry known are = are.0

  rest-known : (entry : ℕ × ℕ) (known : List (ℕ × ℕ)) → AreHeights world (entry ∷ known) → AreHeights world known
  unfolding AreHeights
  rest-known entry known are = are.1

  -- a known height is that at its place
  pub found-known : (place : ℕ) (known : List (ℕ × ℕ)) (height : ℕ) → AreHeights world known → lookup (is_at (nat_cmp place)) known ≡ Some height → height_at place ≡ height
  found-known place [] height are h = absurd cc
  found-known place (entry ∷ known) height are h =
      by (is_eq (nat_cmp place entry.0)) refl (first-known entry known are) h (λ rest. found-known place known height (rest-known entry known are) rest)
    where
      by : (tied : Bool) → is_eq (nat_cmp place entry.0) ≡ tied → height_at entry.0 ≡ entry.1 → cond tied (Some entry.1) (lookup (is_at (nat_cmp place)) known) ≡ Some height →
          (lookup (is_at (nat_cmp place)) known ≡ Some height → height_at place ≡ height) → height_at place ≡ height
      by true tied is h further = ap height_at (same place entry.0 tied) ∙ is ∙ cc
      by false apart is h further = further h

  -- one more known height
  pub put-known : (place height : ℕ) (known : List (ℕ × ℕ)) → height_at place ≡ height → AreHeights world known → AreHeights world (insert_entry nat_cmp known place height)
  put-known place height [] is are = more-known (place, height) [] is are
  put-known place height (entry ∷ known) is are =
      by (nat_cmp place entry.0) refl (first-known entry known are) (rest-known entry known are) (put-known place height known is (rest-known entry known are))
    where
      by : (o : Ordering) → nat_cmp place entry.0 ≡ o → height_at entry.0 ≡ entry.1 → AreHeights world known → AreHeights world (insert_entry nat_cmp known place height) →
          AreHeights world (match_ordering o ((place, height) ∷ entry ∷ known) ((entry.0, height) ∷ known) (entry ∷ insert_entry nat_cmp known place height))
      by Less e first rest put = more-known (place, height) (entry ∷ known) is (more-known entry known first rest)
      by Equal e first rest put = more-known (entry.0, height) known (ap height_at (sym (same place entry.0 (ap is_eq e))) ∙ is) rest
      by Greater e first rest put = more-known entry (insert_entry nat_cmp known place height) first put
