-- A readable index and a string that may be searched for: what search, first position and cut-down index require below their refusals.
-- Assumes nothing.
use Rattle.std.specs.Prelude.{◌≡◌, List, ℕ, ◌+◌, ◌^◌, ◌≤◌, length, take}
use Rattle.basics.specs.Writing.{over}
use Rattle.spec.specs.Index.{n_of}
use Rattle.spec.specs.Calls.{string_refusal}
use Rattle.models.specs.WordStarts.{starts_from}
use Rattle.laws.specs.Dictionary.WordCode.{Small}
use Rattle.laws.specs.Readable.IndexRefusal.{accepted_length}
use Rattle.laws.specs.Search.Sizing.{IsString, string_passes}
use Rattle.laws.specs.Directory.Tables.{CanRead, Reads, Opened, can_read, front_reads}

-- what holds if 1, 2, 3, 5 and 6 are not met; g is the length of the longest text
pub record CanSearch (g : ℕ) (cs ls xs s : List ℕ) : Type 0 where
  pub can : CanRead cs ls xs
  pub string : IsString s
  pub n_short : n_of xs ≤ g

-- the same with the table of word starts
pub record SearchReads (g : ℕ) (cs ws xs s : List ℕ) : Type 0 where
  pub reads : Reads cs ws xs
  pub string : IsString s
  pub n_short : n_of xs ≤ g

-- and with both tables
pub record SearchOpened (g : ℕ) (cs ws xs ts s : List ℕ) : Type 0 where
  pub opened : Opened cs ws xs ts
  pub string : IsString s
  pub n_short : n_of xs ≤ g

pub can_search :
    (g : ℕ) → g ≤ 2 ^ 32 → (cs ls xs s : List ℕ) → Small cs → string_refusal g cs ls xs s ≡ 0 → CanSearch g cs ls xs s
can_search g small cs ls xs s small_chars none =
    let passes = string_passes g cs ls xs s none in
    record { can = can_read g small cs ls xs small_chars passes.0; string = passes.1; n_short = accepted_length g cs ls xs passes.0 }

-- a table filled from the lengths of a dictionary's words has its starts
pub front_searches :
    {g : ℕ} {cs ls xs s : List ℕ} → CanSearch g cs ls xs s → (old : List ℕ) {table : List ℕ} → table ≡ over (starts_from 0 ls) old →
    SearchReads g cs (take (length ls + 1) table) xs s
front_searches h old filled = record { reads = front_reads h.can old filled; string = h.string; n_short = h.n_short }
