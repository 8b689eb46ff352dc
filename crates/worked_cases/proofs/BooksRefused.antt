-- The books of specs/RefusedBooks are refused.
use Rattle.std.proofs.Common.{◌≡◌, ◌≤◌, ℕ, List, refl, ap, inl, inr, arith, take, replicate, slice_get}
use Rattle.std.specs.Option.{option_map_or}
use Rattle.key_names.specs.declared.names.LaneId.TheVariants.{Base as BaseLane}
use Rattle.key_names.specs.declared.names.KeyName.TheVariants.{Call}
use Rattle.key_names.specs.Lanes.Book.{HalfFinishedLanes, cpu_list}
use Rattle.key_names.specs.Keys.LiveMaterial.{IsErased, cpu_batch}
use Rattle.key_names.specs.Lanes.Samples.{LawfulSamples}
use Rattle.key_names.specs.Lanes.StateList.{LawfulStateList}
use Rattle.key_names.specs.Keys.Uses.{kept, use_of, HoldsByte, IsDisjoint}
use Rattle.worked_cases.specs.RefusedBooks.{shared_refill, unanswered, two_integers, lone_dump, only_rekeyed}
use Rattle.worked_cases.specs.RefusedBooks.{only_blocks}

pub shared_refill_is_refused : IsDisjoint shared_refill → ⊥
shared_refill_is_refused d =
    let byte : HoldsByte (use_of kept (Call BaseLane 1) 0 32).span (Call BaseLane 1) 0 =
    record { same_key = refl; from = omega arith; below = omega arith } in
    d.1.1.0 (Call BaseLane 1) 0 byte (inr (inl byte))

pub unanswered_is_refused : HalfFinishedLanes unanswered → ⊥
unanswered_is_refused lanes = elim (lanes.extractions 1 0 refl)
    [ inl answered ↦ cc | inr later ↦ (let le : 1 ≤ 0 = later in omega arith) ]

first_byte : List ℕ → ℕ
first_byte bytes = option_map_or (λ (x : ℕ). x) (slice_get bytes 0) 0

not_both : (n : ℕ) → n ≡ 1 → n ≡ 0 → ⊥
not_both n p q = omega arith

pub served_bytes_are_refused : IsErased two_integers (λ batch. replicate 96 1) → ⊥
unfolding first_byte
served_bytes_are_refused erased =
    not_both (first_byte (take 8 (replicate 96 1))) refl (ap first_byte (erased.served_zero (cpu_batch 0 4)))

pub lone_dump_is_refused : LawfulSamples lone_dump → ⊥
lone_dump_is_refused samples =
    let due = samples.dump_is_due 0 0 (record { caller = 0; event = 0; step = 0 })
    (record { visit = _; is = refl; event = (refl, refl); dumps = tt }) in omega (arith, due.1)

pub only_rekeyed_is_refused : LawfulStateList (cpu_list two_integers) 0 0 only_rekeyed → ⊥
only_rekeyed_is_refused lawful = let ends = lawful.ends in cc

pub only_blocks_is_refused : LawfulStateList (cpu_list two_integers) 0 0 only_blocks → ⊥
only_blocks_is_refused lawful = let ends = lawful.ends in cc
