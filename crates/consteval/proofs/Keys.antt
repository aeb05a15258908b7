-- Keys are found equal just where they are the same.
use Rattle.std.proofs.Common.{◌≡◌, true, ap, subst}
use Rattle.std.specs.Bool.{Decides}
use Rattle.std.specs.Ordering.{is_eq}
use Rattle.types.specs.SameScalars.{differ, const_same, enum_variant_same, function_same, static_same}
use Rattle.types.specs.contracts.ids.DefWithBodyIdPartialEq.TheImpl as DefWithBodyIdPartialEq
use Rattle.types.specs.declared.ids.DefWithBodyId.{DefWithBodyId}
use Rattle.types.specs.declared.ids.DefWithBodyId.TheVariants.{FunctionId, StaticId, ConstId, VariantId}
use Rattle.consteval.specs.contracts.kept.KeyEq.TheImpl.Laws as equal
use Rattle.consteval.specs.contracts.kept.KeyOrd.TheImpl as KeyOrd
use Rattle.consteval.specs.contracts.kept.KeyOrd.TheImpl.Laws as ordered
use Rattle.consteval.specs.contracts.kept.KeyPartialEq.TheImpl as KeyPartialEq
use Rattle.consteval.specs.declared.kept.Key.{Key}
use Rattle.consteval.specs.declared.kept.Key.TheVariants.{Lowered, Value}

def_same : (a b : DefWithBodyId) → DefWithBodyIdPartialEq.ghosts.eq a b ≡ true → a ≡ b
def_same (FunctionId a) (FunctionId b) h = ap FunctionId (function_same a b h)
def_same (FunctionId a) _ h = differ h
def_same (StaticId a) (StaticId b) h = ap StaticId (static_same a b h)
def_same (StaticId a) _ h = differ h
def_same (ConstId a) (ConstId b) h = ap ConstId (const_same a b h)
def_same (ConstId a) _ h = differ h
def_same (VariantId a) (VariantId b) h = ap VariantId (enum_variant_same a b h)
def_same (VariantId a) _ h = differ h

key_same : (a b : Key) → KeyPartialEq.ghosts.eq a b ≡ true → a ≡ b
key_same (Lowered a) (Lowered b) h = ap Lowered (def_same a b h)
key_same (Lowered a) _ h = differ h
key_same (Value a) (Value b) h = ap Value (def_same a b h)
key_same (Value a) _ h = differ h

key_decides : (a b : Key) → Decides (KeyPartialEq.ghosts.eq a b) (a ≡ b)
key_decides a b = (key_same a b, λ same. subst (λ k. KeyPartialEq.ghosts.eq a k ≡ true) same (equal.laws-law.refl a))

-- the order of keys finds two equal just where they are the same
pub order_decides : (a b : Key) → Decides (is_eq (KeyOrd.ghosts.cmp a b)) (a ≡ b)
order_decides a b = subst (λ r. Decides r (a ≡ b)) (ordered.matches_eq-law a b) (key_decides a b)
