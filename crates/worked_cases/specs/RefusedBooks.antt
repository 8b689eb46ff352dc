-- Books that the kernel cannot have.
use Rattle.std.specs.Prelude.{true, false, Some, None, List, [], ◌∷◌, replicate}
use Rattle.key_names.specs.declared.entries.Taken.TheVariants.{User}
use Rattle.key_names.specs.declared.entries.PoolEntry.TheVariants.{Mix, Extract}
use Rattle.key_names.specs.declared.entries.BaseEntry.TheVariants.{Reseed, Refill, End}
use Rattle.key_names.specs.declared.entries.CpuEntry.TheVariants.{Read, Int, Dump}
use Rattle.key_names.specs.declared.entries.VEntry.{VEntry}
use Rattle.key_names.specs.declared.entries.VEntry.TheVariants.{Rekey, Blocks}
use Rattle.key_names.specs.Lanes.Book.{Book, Lists}

-- two CPUs take their key from the same refill (an entry of the base that hands over a key)
abbrev pub shared_refill : Lists
shared_refill = record {
  pool = Mix [] 256 ∷ Extract (replicate 32 0) 0 ∷ [];
  base = Reseed 1 0 ∷ Refill 0 0 ∷ [];
  cpus = (Read 1 (Some 1) (User 8) ∷ []) ∷ (Read 1 (Some 1) (User 8) ∷ []) ∷ [];
  callers = [];
}

-- an extraction names a place of the base; the base has an entry at that place, but the entry does not name the
-- extraction
abbrev pub unanswered : Lists
unanswered = record {
  pool = Mix [] 256 ∷ Extract (replicate 32 0) 0 ∷ [];
  base = End ∷ [];
  cpus = [];
  callers = [];
}

-- two integers of 4 bytes are served from one batch
abbrev pub two_integers : Lists
two_integers = record {
  pool = Mix [] 256 ∷ Extract (replicate 32 0) 0 ∷ [];
  base = Reseed 1 0 ∷ Refill 0 0 ∷ [];
  cpus = (Int 1 (Some 1) 4 true ∷ Int 1 None 4 false ∷ []) ∷ [];
  callers = [];
}

-- a book with a dump of a CPU's fast pool but without an interrupt
abbrev pub lone_dump : Book
lone_dump = record {
  pool = [];
  base = [];
  cpus = (record { stamp = 1; who = record { caller = 0; event = 0; step = 0 }; entry = Dump 0 } ∷ []) ∷ [];
  callers = [];
}

-- the list of a vgetrandom state that takes a key and makes no batch. `only_blocks` is the list of a vgetrandom state
-- that takes a key, serves whole blocks, and makes no batch
abbrev pub only_rekeyed : List VEntry
only_rekeyed = Rekey 0 0 ∷ []

abbrev pub only_blocks : List VEntry
only_blocks = Rekey 0 0 ∷ Blocks 0 1 ∷ []
