-- How `setting_of` reads a list of settings, and how an event changes a caller's setting.
use Rattle.std.proofs.Common.{◌≡◌, ℕ, zero, suc, ◌<◌, List, [], ◌∷◌, ◌++◌, length, refl, arith, length-append}
use Rattle.key_names.specs.declared.events.Event.{Event}
use Rattle.key_names.specs.declared.events.Event.TheVariants.{Drop, State}
use Rattle.key_names.specs.Callers.Calls.{Setting, Call, parent_from, first_settings, setting_of, setting_after, inherited_setting}
use Rattle.key_names.specs.Callers.Meaning.{CallerState, caller_after}

pub setting_front : (sets : List Setting) (x : Setting) (c : ℕ) → c < length sets →
    setting_of (sets ++ x ∷ []) c ≡ setting_of sets c
setting_front [] x c low = absurd (omega arith)
setting_front (set ∷ sets) x zero low = refl
setting_front (set ∷ sets) x (suc c) low = setting_front sets x c (omega arith)

pub setting_last : (sets : List Setting) (x : Setting) → setting_of (sets ++ x ∷ []) (length sets) ≡ x
setting_last [] x = refl
setting_last (set ∷ sets) x = setting_last sets x

pub long_settings : (callers : List (List Call)) (n : ℕ) → length (first_settings callers n) ≡ n
long_settings callers zero = refl
long_settings callers (suc n) =
    let rest = long_settings callers n in
    let x : Setting = inherited_setting (first_settings callers n) (parent_from n 0 callers) in
    omega (arith, length-append (first_settings callers n) (x ∷ []))

pub setting_moves : (s : CallerState) (event : Event) → (caller_after s event).setting ≡ setting_after s.setting event
setting_moves s Drop = refl
setting_moves s (State number) = refl
setting_moves s event = refl
