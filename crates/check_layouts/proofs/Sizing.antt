-- Tests that decide what is asked of alignments, sizes, the elements of arrays and tags.
use Rattle.std.proofs.Common.{◌≡◌, ℕ, zero, suc, ◌*◌, ◌/◌, ◌%◌, ◌^◌, ◌||◌, ◌<◌, ◌≤◌, ◌⊎◌, inl, inr, eqb, Some, List, [], ◌∷◌, get_or, Decides, refl, sym, ◌∙◌, ap, arith}
use Rattle.std.proofs.Math.Nat.{mul-mod_left}
use Rattle.std.proofs.lemmas.Bool.Decides.{Decides-by_or, Decides-eqb, Decides-like, Decides-or}
use Rattle.std.specs.List.{list_any}
use Rattle.world.specs.Checked.{IsAlignment}
use Rattle.check_layouts.specs.Laid.{Has}

-- the powers of two up to 8192
abbrev pub alignments : List ℕ
alignments = 1 ∷ 2 ∷ 4 ∷ 8 ∷ 16 ∷ 32 ∷ 64 ∷ 128 ∷ 256 ∷ 512 ∷ 1024 ∷ 2048 ∷ 4096 ∷ 8192 ∷ []

power_at : (k d : ℕ) → k ≤ 13 → get_or alignments k d ≡ 2 ^ k
power_at zero d h = refl
power_at (suc zero) d h = refl
power_at (suc (suc zero)) d h = refl
power_at (suc (suc (suc zero))) d h = refl
power_at (suc (suc (suc (suc zero)))) d h = refl
power_at (suc (suc (suc (suc (suc zero))))) d h = refl
power_at (suc (suc (suc (suc (suc (suc zero)))))) d h = refl
power_at (suc (suc (suc (suc (suc (suc (suc zero))))))) d h = refl
power_at (suc (suc (suc (suc (suc (suc (suc (suc zero)))))))) d h = refl
power_at (suc (suc (suc (suc (suc (suc (suc (suc (suc zero))))))))) d h = refl
power_at (suc (suc (suc (suc (suc (suc (suc (suc (suc (suc zero)))))))))) d h = refl
power_at (suc (suc (suc (suc (suc (suc (suc (suc (suc (suc (suc zero))))))))))) d h = refl
power_at (suc (suc (suc (suc (suc (suc (suc (suc (suc (suc (suc (suc zero)))))))))))) d h = refl
power_at (suc (suc (suc (suc (suc (suc (suc (suc (suc (suc (suc (suc (suc zero))))))))))))) d h = refl
power_at (suc (suc (suc (suc (suc (suc (suc (suc (suc (suc (suc (suc (suc (suc k)))))))))))))) d h = absurd (omega arith)

pub alignment_decides : (align : ℕ) → Decides (list_any (λ power. eqb power align) alignments) (IsAlignment align)
alignment_decides align =
    Decides-like (list_any (λ power. eqb power align) alignments)
    (λ found. (found.0, omega (arith, found.1), sym (found.2 0) ∙ power_at found.0 0 (omega (arith, found.1))))
    (λ is. (is.0, omega (arith, is.1), λ d. power_at is.0 d is.1 ∙ sym is.2))
    (Decides-by_or (λ power. eqb power align) (λ power. power ≡ align) (list_any (λ power. eqb power align)) (λ power. Decides-eqb power align) refl (λ _ _. refl) alignments)

quotient : (size align : ℕ) → 0 < align → size % align ≡ 0 → (n : ℕ) × (size ≡ n * align)
quotient size align h e = (size / align, grind arith)

pub multiple_decides : (size align : ℕ) → 0 < align → Decides (eqb (size % align) 0) ((n : ℕ) × (size ≡ n * align))
multiple_decides size align h = Decides-like (eqb (size % align) 0) (quotient size align h) (λ is. ap (λ s. s % align) is.1 ∙ mul-mod_left is.0 align) (Decides-eqb (size % align) 0)

-- the sizes of integers
abbrev widths : List ℕ
widths = 1 ∷ 2 ∷ 4 ∷ 8 ∷ 16 ∷ []

pub width_decides : (size : ℕ) → Decides (eqb size 1 || eqb size 2 || eqb size 4 || eqb size 8 || eqb size 16) (Has widths size)
width_decides size =
    Decides-like (eqb size 1 || eqb size 2 || eqb size 4 || eqb size 8 || eqb size 16) one_of is_one
    (Decides-or (eqb size 1 || eqb size 2 || eqb size 4 || eqb size 8) (eqb size 16)
    (Decides-or (eqb size 1 || eqb size 2 || eqb size 4) (eqb size 8)
    (Decides-or (eqb size 1 || eqb size 2) (eqb size 4) (Decides-or (eqb size 1) (eqb size 2) (Decides-eqb size 1) (Decides-eqb size 2)) (Decides-eqb size 4))
    (Decides-eqb size 8))
    (Decides-eqb size 16))
  where
    one_of : ((((size ≡ 1) ⊎ (size ≡ 2)) ⊎ (size ≡ 4)) ⊎ (size ≡ 8)) ⊎ (size ≡ 16) → Has widths size
    one_of (inl (inl (inl (inl e)))) = (0, ap Some (sym e))
    one_of (inl (inl (inl (inr e)))) = (1, ap Some (sym e))
    one_of (inl (inl (inr e))) = (2, ap Some (sym e))
    one_of (inl (inr e)) = (3, ap Some (sym e))
    one_of (inr e) = (4, ap Some (sym e))

    is_one : Has widths size → ((((size ≡ 1) ⊎ (size ≡ 2)) ⊎ (size ≡ 4)) ⊎ (size ≡ 8)) ⊎ (size ≡ 16)
    is_one (zero, at) = inl (inl (inl (inl cc)))
    is_one (suc zero, at) = inl (inl (inl (inr cc)))
    is_one (suc (suc zero), at) = inl (inl (inr cc))
    is_one (suc (suc (suc zero)), at) = inl (inr cc)
    is_one (suc (suc (suc (suc zero))), at) = inr cc
    is_one (suc (suc (suc (suc (suc k)))), at) = cc
