-- The script of a load: each caller, on its own CPU, makes eight kinds of calls in turn.
use Rattle.std.specs.Prelude.{ℕ, zero, suc, ◌+◌, ◌-◌, ◌*◌, ◌%◌, List, [], ◌∷◌, ◌++◌, map, slice_index_or}
use Rattle.std.specs.Int.{w64, to_le_bytes}
use Rattle.std.specs.List.{range_with_len}
use Rattle.key_names.specs.declared.events.Event.{Event}
use Rattle.key_names.specs.declared.events.Event.TheVariants.{On, Write, Add, Irq, Read, Vread, Kread, Uread, Int64, Reseed, Fork}
use Rattle.key_names.specs.Texts.ScriptGrammar.{Script}

-- one call of each of the eight kinds; the reads have `len` bytes
abbrev pub calls : ℕ → ℕ → ℕ → List Event
calls len caller number =
    Read len 0 ∷ Vread len 0 ∷ Kread len ∷ Int64 ∷ Irq number caller ∷ Write (to_le_bytes w64 number) ∷ Uread len
    ∷ Reseed ∷ []

abbrev pub read_len : ℕ → ℕ → ℕ
read_len start number = 1 + (17 * number + start) % 100

-- the kind of the caller's call with the given number, as an index into `calls`
abbrev pub turn : ℕ → ℕ → ℕ → ℕ
turn start caller number = (start + 3 * caller + number) % 8

abbrev pub call : ℕ → ℕ → ℕ → Event
call start caller number =
    slice_index_or (calls (read_len start number) caller number) (turn start caller number) Reseed

-- the opening events: caller 0 makes the core ready and forks all others; no other caller has opening events
abbrev pub opening : ℕ → ℕ → List Event
opening callers zero = Add (range_with_len 0 32) 256 ∷ map Fork (range_with_len 1 (callers - 1))
opening callers (suc caller) = []

-- the events of `caller`, which makes `count` calls
abbrev pub load_events : ℕ → ℕ → ℕ → ℕ → List Event
load_events start callers count caller =
    opening callers caller ++ On caller ∷ map (call start caller) (range_with_len 0 count)

abbrev pub load_script : ℕ → ℕ → ℕ → Script
load_script start callers count = record {
  version = 1;
  cpus = callers;
  callers = map (load_events start callers count) (range_with_len 0 callers);
}
