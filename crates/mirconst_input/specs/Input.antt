-- The checked world and the goals in the bytes of the input, or what is wrong with them.
use Rattle.std.specs.Prelude.{◌≡◌, ℕ, ◌≤◌, List, [], ◌++◌, length, drop, Option, None, Some, Ok, Err, IsUtf8, IfSome, codes, decimal, option_map, position}
use Rattle.serde_json.specs.Data.{Data}
use Rattle.serde_json.specs.Read.{read}
use Rattle.world.specs.declared.database.HirDatabase.{HirDatabase}
use Rattle.world_check.specs.Rows.{Holds, IsFirstFailure}
use Rattle.world_check.specs.declared.fault.InvalidWorld.{InvalidWorld}
use Rattle.world_json.specs.declared.goal.Goal.{Goal}
use Rattle.world_json.specs.Input.{world_of}
use Rattle.mirconst_input.specs.Goals.{is_misfit}

-- Bytes moved from the source to those that were read: joined, the bytes that were read and those that are left to read are the
-- same as before.
abbrev pub Moves : List ℕ → Option (List ℕ) → List ℕ → Option (List ℕ) → Type 0
Moves taken left taken' left' = option_map (λ rest. taken ++ rest) left ≡ option_map (λ rest. taken' ++ rest) left'

-- the greatest length of the input of a run, in bytes
abbrev pub most_bytes : ℕ
most_bytes = 67108864

-- These bytes were read to the end of the input, and are no more than the greatest length. If the contract of the source
-- states its bytes, they are all of them, and none is left to read.
pub record IsReadToEnd (left left' : Option (List ℕ)) (bytes : List ℕ) : Type 0 where
  pub whole : IfSome left (λ all. all ≡ bytes)
  pub ended : IfSome left (λ all. left' ≡ Some [])
  pub few : length bytes ≤ most_bytes

-- at most `most` bytes were taken from the front of those that were left to read
pub record Takes (most : ℕ) (left left' : Option (List ℕ)) : Type 0 where
  pub count : ℕ
  pub few : count ≤ most
  pub taken : left' ≡ option_map (drop count) left

-- at most one byte more than the greatest length of the input was taken from the front of those that were left to read
abbrev pub TakesFew : Option (List ℕ) → Option (List ℕ) → Type 0
TakesFew left left' = Takes 67108865 left left'

-- Bytes are the JSON of a world and of goals, which are definitions to be evaluated as constants. The world passes the check
-- of its conditions, and no goal is wrong in it.
pub record StandsFor (bytes : List ℕ) (world : HirDatabase) (goals : List Goal) : Type 0 where
  pub tree : Data
  pub utf8 : IsUtf8 bytes
  pub json : read bytes ≡ Some tree
  pub stands : world_of tree ≡ Ok (world, goals)
  pub holds : Holds world
  pub fit : position (is_misfit world) goals ≡ None

-- bytes are the text of a JSON tree, in UTF-8
pub record IsJson (bytes : List ℕ) (tree : Data) : Type 0 where
  pub utf8 : IsUtf8 bytes
  pub json : read bytes ≡ Some tree

-- bytes are the text of no JSON tree
abbrev pub IsNoJson : List ℕ → Type 0
IsNoJson bytes = (tree : Data) → ¬ IsJson bytes tree

-- bytes are the text of a JSON tree that stands for no world with goals; the path is that of the first part of the tree that
-- doesn't fit, as `world.consts[0].ty`
pub record HasMisfit (bytes path : List ℕ) : Type 0 where
  pub tree : Data
  pub json : IsJson bytes tree
  pub misfit : world_of tree ≡ Err path

-- the path of a goal in the JSON of the input, as `goals[3]`
abbrev pub goal_path : ℕ → List ℕ
goal_path place = codes "goals[" ++ (decimal place ++ codes "]")

-- bytes are the JSON of a world and of goals; the world passes the check of its conditions, and the path is that of the first
-- goal that is wrong in it
pub record HasMisfitGoal (bytes path : List ℕ) : Type 0 where
  pub tree : Data
  pub world : HirDatabase
  pub goals : List Goal
  pub place : ℕ
  pub json : IsJson bytes tree
  pub stands : world_of tree ≡ Ok (world, goals)
  pub holds : Holds world
  pub first : position (is_misfit world) goals ≡ Some place
  pub named : path ≡ goal_path place

-- bytes are the JSON of a world and of goals; the world fails the check of its conditions, first at this condition and
-- at this place
pub record HasFailure (bytes : List ℕ) (invalid : InvalidWorld) : Type 0 where
  pub tree : Data
  pub world : HirDatabase
  pub goals : List Goal
  pub json : IsJson bytes tree
  pub stands : world_of tree ≡ Ok (world, goals)
  pub fails : IsFirstFailure world invalid.row invalid.place
