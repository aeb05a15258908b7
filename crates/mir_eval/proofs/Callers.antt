-- Callers that wait: one more of them.
use Rattle.std.proofs.Common.{◌≡◌, zero, suc, Bool, true, false, List, [], ◌∷◌, ◌++◌, Option, Some, None, append-nil, refl, sym, ap, ◌∙◌, subst}
use Rattle.std.specs.Prelude.{IfSome, if◌then◌else◌, map, reverse}
use Rattle.std.specs.Option.{option_to_list}
use Rattle.std.proofs.lemmas.Option.{same_Some}
use Rattle.world.specs.declared.database.HirDatabase.{HirDatabase}
use Rattle.std.proofs.lemmas.List.{map-append, reverse-append}
use Rattle.mir_eval.specs.declared.frames.Suspended.{Suspended}
use Rattle.mir_eval.specs.Frames.{AreOfWorld, callers, waiting_of}

-- the caller that the machine keeps last is the nearest
pub callers-push : (below : List Suspended) (caller : Suspended) → callers (below ++ caller ∷ []) ≡ waiting_of caller ∷ callers below
callers-push below caller =
    ap reverse (map-append waiting_of below (caller ∷ [])) ∙ reverse-append (map waiting_of below) (waiting_of caller ∷ [])

module _ (world : HirDatabase) where
  -- callers of a world, and one more
  more-of-world : (below : List Suspended) (caller : Suspended) → AreOfWorld world below → caller.body.value.world ≡ world → AreOfWorld world (below ++ caller ∷ [])
  more-of-world [] caller all one zero other is = subst (λ (c : Suspended). c.body.value.world ≡ world) (same_Some caller other is) one
  more-of-world [] caller all one (suc k) other is = absurd cc
  more-of-world (first ∷ below) caller all one zero other is = all zero other is
  more-of-world (first ∷ below) caller all one (suc k) other is = more-of-world below caller (λ j c at. all (suc j) c at) one k other is

  -- the last of them, and the others
  last-of-world : (below : List Suspended) (caller : Suspended) → AreOfWorld world (below ++ caller ∷ []) → caller.body.value.world ≡ world
  last-of-world [] caller all = all zero caller refl
  last-of-world (first ∷ below) caller all = last-of-world below caller (λ j c at. all (suc j) c at)

  others-of-world : (below : List Suspended) (caller : Suspended) → AreOfWorld world (below ++ caller ∷ []) → AreOfWorld world below
  others-of-world [] caller all k other is = absurd cc
  others-of-world (first ∷ below) caller all zero other is = all zero other is
  others-of-world (first ∷ below) caller all (suc k) other is = others-of-world below caller (λ j c at. all (suc j) c at) k other is

  -- what is taken off, and what is left
  pub taken-of-world : (old now : List Suspended) (found : Option Suspended) → old ≡ now ++ option_to_list found → AreOfWorld world old → IfSome found (λ caller. caller.body.value.world ≡ world)
  taken-of-world old now None is all = tt
  taken-of-world old now (Some caller) is all = last-of-world now caller (subst (AreOfWorld world) is all)

  pub left-of-world : (old now : List Suspended) (found : Option Suspended) → old ≡ now ++ option_to_list found → AreOfWorld world old → AreOfWorld world now
  left-of-world old now None is all = subst (AreOfWorld world) (is ∙ append-nil now) all
  left-of-world old now (Some caller) is all = others-of-world now caller (subst (AreOfWorld world) is all)

  -- one more, where there was memory for it
  pub put-of-world : (old now : List Suspended) (caller : Suspended) (done : Bool) → now ≡ (if done then (old ++ caller ∷ []) else old) → AreOfWorld world old → caller.body.value.world ≡ world → AreOfWorld world now
  put-of-world old now caller true is all one = subst (AreOfWorld world) (sym is) (more-of-world old caller all one)
  put-of-world old now caller false is all one = subst (AreOfWorld world) (sym is) all
