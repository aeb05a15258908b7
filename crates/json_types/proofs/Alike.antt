-- Readers that agree on all trees with fewer than k levels, and readers that are made from such ones.
use Rattle.std.proofs.Common.{◌≡◌, ℕ, suc, ◌+◌, ◌<◌, ◌≤◌, max, List, Option, Some, None, Ok, Bool, true, false, cond, Ordering, Less, Equal, Greater, refl, ap, arith}
use Rattle.std.specs.Cmp.Lexicographic.{slice_cmp}
use Rattle.std.specs.Ordering.{nat_cmp, match_ordering}
use Rattle.std.specs.Prelude.{option_map, bytes_eq}
use Rattle.serde_json.specs.Data.{Data, null, boolean, number, string, array, object, Items, no_items, item, Members, no_members, member, depth, items_depth, members_depth}
use Rattle.serde_json.specs.Find.{get, get_member}
use Rattle.json_kit.specs.Fit.{Fit, ◌>>=◌, found, below, key_step}
use Rattle.json_kit.specs.Keys.{required, optional, value_or}
use Rattle.json_kit.specs.Parts.{items_from, list_of, pair_of}
use Rattle.json_kit.specs.Variants.{Named, variant_of, payload_of, payload_part, payload, or_else}

-- two readers agree on all trees with fewer than k levels
pub record Alike {A : Type 0} (k : ℕ) (f g : Data → Fit A) : Type 0 where
  pub at : (d : Data) → depth d < k → f d ≡ g d

-- an optional tree is none, or has fewer than k levels
abbrev pub Within : ℕ → Option Data → Type 0
Within k None = Unit {0}
Within k (Some d) = depth d < k

-- two rows of an enum agree on all payloads with fewer than k levels
pub record RowAlike {A : Type 0} (k : ℕ) (r s : Named → Fit (Option A)) : Type 0 where
  pub at : (v : Named) → Within k v.1 → r v ≡ s v

pub same : {A : Type 0} (k : ℕ) (f : Data → Fit A) → Alike k f f
same k f = record { at = λ d h. refl }

pub weaker : {A : Type 0} {k : ℕ} {f g : Data → Fit A} → Alike (suc k) f g → Alike k f g
weaker alike = record { at = λ d h. alike.at d (omega arith) }

items_alike : {A : Type 0} {k : ℕ} {f g : Data → Fit A} → Alike k f g → (i : ℕ) (ds : Items) → items_depth ds < k → items_from f i ds ≡ items_from g i ds
unfolding items_from
items_alike alike i no_items h = refl
items_alike alike i (item d ds) h = rw (alike.at d (omega arith), items_alike alike (i + 1) ds (omega arith)) refl

list_at : {A : Type 0} {k : ℕ} {f g : Data → Fit A} → Alike k f g → (d : Data) → depth d < k → list_of f d ≡ list_of g d
list_at alike null h = refl
list_at alike (boolean b) h = refl
list_at alike (number n) h = refl
list_at alike (string s) h = refl
list_at alike (array ds) h = items_alike alike 0 ds (omega arith)
list_at alike (object ms) h = refl

pub list_alike : {A : Type 0} {k : ℕ} {f g : Data → Fit A} → Alike k f g → Alike k (list_of f) (list_of g)
list_alike alike = record { at = list_at alike }

pair_at : {A B : Type 0} {k : ℕ} {f g : Data → Fit A} {p q : Data → Fit B} → Alike k f g → Alike k p q → (d : Data) → depth d < k → pair_of f p d ≡ pair_of g q d
unfolding pair_of
pair_at first second null h = refl
pair_at first second (boolean b) h = refl
pair_at first second (number n) h = refl
pair_at first second (string s) h = refl
pair_at first second (array no_items) h = refl
pair_at first second (array (item d no_items)) h = refl
pair_at first second (array (item d (item e no_items))) h = rw (first.at d (omega arith), second.at e (omega arith)) refl
pair_at first second (array (item d (item e (item c ds)))) h = refl
pair_at first second (object ms) h = refl

pub pair_alike : {A B : Type 0} {k : ℕ} {f g : Data → Fit A} {p q : Data → Fit B} → Alike k f g → Alike k p q → Alike k (pair_of f p) (pair_of g q)
pair_alike first second = record { at = pair_at first second }

-- readers of the value at a key agree
within_more : (j k : ℕ) (o : Option Data) → j ≤ k → Within j o → Within k o
within_more j k None le h = tt
within_more j k (Some d) le h = omega arith

pick : (k : ℕ) (o : Ordering) (a b c : Option Data) → Within k a → Within k b → Within k c → Within k (match_ordering o a b c)
pick k Less a b c x y z = x
pick k Equal a b c x y z = y
pick k Greater a b c x y z = z

member_within : (name : List ℕ) (ms : Members) → Within (suc (members_depth ms)) (get_member name ms)
member_within name no_members = tt
member_within name (member key d ms) =
    let rest = within_more (suc (members_depth ms)) (suc (max (depth d) (members_depth ms))) (get_member name ms) (omega arith) (member_within name ms) in
    pick (suc (max (depth d) (members_depth ms))) (slice_cmp nat_cmp name key) (get_member name ms) (Some d) (get_member name ms) rest (omega arith) rest

pub get_within : (name : List ℕ) (d : Data) → Within (depth d) (get name d)
get_within name null = tt
get_within name (boolean b) = tt
get_within name (number n) = tt
get_within name (string s) = tt
get_within name (array ds) = tt
get_within name (object ms) = member_within name ms

value_alike : {A : Type 0} {k : ℕ} {f g : Data → Fit A} → Alike k f g → (left_out : Fit A) (o : Option Data) → Within k o → value_or left_out f o ≡ value_or left_out g o
value_alike alike left_out None h = refl
value_alike alike left_out (Some d) h = alike.at d h

pub required_at : {A : Type 0} {k : ℕ} {f g : Data → Fit A} → Alike k f g → (name : List ℕ) (d : Data) → depth d < suc k → required name f d ≡ required name g d
required_at {k} alike name d h = ap (below (key_step name)) (value_alike alike _ (get name d) (within_more (depth d) k (get name d) (omega arith) (get_within name d)))

pub optional_at : {A : Type 0} {k : ℕ} {f g : Data → Fit A} → Alike k f g → (left_out : A) (name : List ℕ) (d : Data) → depth d < suc k → optional left_out name f d ≡ optional left_out name g d
optional_at {k} alike left_out name d h = ap (below (key_step name)) (value_alike alike _ (get name d) (within_more (depth d) k (get name d) (omega arith) (get_within name d)))

-- readers of an enum agree
part_within : (k : ℕ) (b : Bool) (o : Option Data) → Within k o → Within k (cond b o None)
part_within k true o h = h
part_within k false o h = tt

payload_of_alike : {A : Type 0} {k : ℕ} {f g : Data → Fit A} → Alike k f g → (name : List ℕ) (o : Option Data) → Within k o → payload_of name f o ≡ payload_of name g o
payload_of_alike alike name None h = refl
payload_of_alike alike name (Some d) h = rw (alike.at d h) refl

pub payload_alike : {A B : Type 0} {k : ℕ} {f g : Data → Fit A} (name : List ℕ) (make : A → B) → Alike k f g → RowAlike k (payload name f make) (payload name g make)
payload_alike {k} name make alike = record {
  at = λ v h. ap (λ r. r >>= λ o. Ok (option_map make o)) (payload_of_alike alike name (payload_part name v) (part_within k (bytes_eq v.0 name) v.1 h));
}

pub same_row : {A : Type 0} (k : ℕ) (r : Named → Fit (Option A)) → RowAlike k r r
same_row k r = record { at = λ v h. refl }

or_at : {A : Type 0} {k : ℕ} {r s p q : Named → Fit (Option A)} → RowAlike k r s → RowAlike k p q → (v : Named) → Within k v.1 → or_else (r v) (p v) ≡ or_else (s v) (q v)
or_at first next v h = rw (first.at v h, next.at v h) refl

-- the first of several rows agree
pub or_alike : {A : Type 0} {k : ℕ} {r s p q : Named → Fit (Option A)} → RowAlike k r s → RowAlike k p q → RowAlike k (λ v. or_else (r v) (p v)) (λ v. or_else (s v) (q v))
or_alike first next = record { at = or_at first next }

enum_at : {A : Type 0} {k : ℕ} {r s : Named → Fit (Option A)} → RowAlike k r s → (d : Data) → depth d < suc k → (variant_of d >>= λ v. r v >>= found) ≡ (variant_of d >>= λ v. s v >>= found)
enum_at alike null h = refl
enum_at alike (boolean b) h = refl
enum_at alike (number n) h = refl
enum_at alike (string s) h = rw (alike.at (s, None) tt) refl
enum_at alike (array ds) h = refl
enum_at alike (object no_members) h = refl
enum_at alike (object (member key d no_members)) h = rw (alike.at (key, Some d) (omega arith)) refl
enum_at alike (object (member key d (member other e ms))) h = refl

pub enum_alike : {A : Type 0} {k : ℕ} {r s : Named → Fit (Option A)} → RowAlike k r s → Alike (suc k) (λ d. variant_of d >>= λ v. r v >>= found) (λ d. variant_of d >>= λ v. s v >>= found)
enum_alike alike = record { at = enum_at alike }
