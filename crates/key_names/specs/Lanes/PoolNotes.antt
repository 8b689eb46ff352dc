-- The pool entry of each note. A note describes a pool entry, and refers to the bytes that the entry contains.
use Rattle.key_names.specs.declared.entries.PoolEntry.{PoolEntry}
use Rattle.key_names.specs.declared.entries.PoolEntry.TheVariants.{Mix, Input, Bits, Extract}
use Rattle.key_names.specs.declared.notes.PoolNote.{PoolNote}
use Rattle.key_names.specs.declared.notes.PoolNote.TheVariants.{Mix as MixNote, Device, Input as InputNote}
use Rattle.key_names.specs.declared.notes.PoolNote.TheVariants.{Bits as BitsNote, Extract as ExtractNote}
use Rattle.key_names.specs.Callers.Forms.{device_entry}

abbrev pub entry_of : PoolNote → PoolEntry
entry_of (MixNote text bits) = Mix text.now bits
entry_of (Device word text) = device_entry word text.now
entry_of (InputNote word kind code value now) = Input word kind code value now
entry_of BitsNote = Bits
entry_of (ExtractNote hw base_place) = Extract hw base_place
