-- The code finds the setting before each call. A child starts with the setting found for its parent at the fork.
use Rattle.std.proofs.Common.{◌≡◌, inl, inr, ℕ, zero, suc, ◌+◌, ◌<◌, Option, Some, None, List, [], ◌∷◌, ◌++◌, length, get_or, take, drop, map, refl, sym, subst, ap, ◌∙◌, arith}
use Rattle.std.specs.Prelude.{slice_get, unwrap_or}
use Rattle.std.specs.List.{fold, AllByRecursion}
use Rattle.std.specs.Global.{Vec}
use Rattle.key_names.specs.Lanes.Book.{list_at}
use Rattle.key_names.specs.Callers.Calls.{Setting, Call, Parent, parent_from, first_setting, setting_after_call, setting_of}
use Rattle.key_names.specs.Callers.Calls.{inherited_setting, first_settings}
use Rattle.key_names.specs.Transcripts.IsTranscript.{start_setting}
use Rattle.key_names.proofs.Transcripts.Settings.{setting_front, setting_last, long_settings}
use Rattle.key_names.proofs.History.CallerOrders.{below}
use Rattle.judge_lines.specs.declared.called.CalledLines.{CalledLines}
use Rattle.judge_lines.specs.Called.{seen_call, seen_calls}
use Rattle.judge_lines.specs.Orders.{all_forks, front_in}
use Rattle.judge_lines.specs.Settings.{settings_from, found_by, first_found}
use Rattle.judge_lines.proofs.Forks.{AtParent, at_parent, rises}
use Rattle.judge_lines.proofs.Fronts.{goes_on}

-- if `set`, the setting before call n, is added to the settings found so far, only the settings before the later calls
-- are missing
pub found_next : (calls : List CalledLines) (n : ℕ) (call : CalledLines) (set : Setting) (found whole : List Setting) →
    n < length calls → call ≡ get_or calls n call → found ++ settings_from set (map seen_call (drop n calls)) ≡ whole →
    (found ++ set ∷ []) ++ settings_from (setting_after_call set (seen_call call)) (map seen_call (drop (n + 1) calls))
    ≡ whole
found_next calls n call set found whole low is so_far =
    goes_on (λ xs. settings_from set (map seen_call xs))
    (λ xs. settings_from (setting_after_call set (seen_call call)) (map seen_call xs)) calls n call found (set ∷ []) whole
    low is refl so_far

at_settings : (set : Setting) (calls : List Call) (k : ℕ) → k < length calls →
    slice_get (settings_from set calls) k ≡ Some (fold setting_after_call set (take k calls))
at_settings set [] k low = absurd (omega arith)
at_settings set (call ∷ calls) zero low = refl
at_settings set (call ∷ calls) (suc k) low = at_settings (setting_after_call set call) calls k (omega arith)

-- the settings with which callers start

abbrev begun : List (List Call) → ℕ → Setting
begun callers c = inherited_setting (first_settings callers c) (parent_from c 0 callers)

begins_at : (callers : List (List Call)) (n c : ℕ) → c < n → setting_of (first_settings callers n) c ≡ begun callers c
begins_at callers zero c low = absurd (omega arith)
begins_at callers (suc n) c low =
    let earlier : List Setting = first_settings callers n in
    let long : length earlier ≡ n = long_settings callers n in
    elim (below c n low) [
      | inl less ↦ setting_front earlier (begun callers n) c (omega arith) ∙ begins_at callers n c less
      | inr same ↦ ap (setting_of (earlier ++ begun callers n ∷ [])) (same ∙ sym long)
          ∙ setting_last earlier (begun callers n) ∙ ap (begun callers) (sym same)
    ]

get_some : {X : Type 0} (xs : List X) (p : ℕ) → p < length xs → (x : X) × (slice_get xs p ≡ Some x)
get_some [] p low = absurd (omega arith)
get_some (x ∷ xs) zero low = (x, refl)
get_some (x ∷ xs) (suc p) low = get_some xs p (omega arith)

-- for each caller reached so far, `settings` has the setting before each of its calls
abbrev pub EachFound : List (List Call) → List (Vec Setting) → Type 0
EachFound callers settings = (c : ℕ) (found : Vec Setting) → slice_get settings c ≡ Some found →
    found.items ≡ settings_from (start_setting callers c) (list_at callers c)

module _ (callers : List (List Call)) (settings : List (Vec Setting)) (c : ℕ) (low : c < length callers)
    (long : length settings ≡ c) (rise : AllByRecursion (λ fork. fork.parent < fork.child) (all_forks 0 callers))
    (each : EachFound callers settings) where
  starts : start_setting callers c ≡ begun callers c
  starts = begins_at callers (length callers) c low

  at_front : (o : Option Parent) → AtParent c 0 callers o →
      first_found settings (front_in c (all_forks 0 callers)) ≡ inherited_setting (first_settings callers c) o
  at_front None at = ap (first_found settings) at
  at_front (Some parent) f =
      let p : ℕ = parent.caller in
      let same : f.k ≡ p = (let e = f.caller in omega arith) in
      let fork_is : f.fork.parent ≡ p = (let e = f.parent_is in omega arith) in
      let lower : p < c = subst (λ n. n < c) fork_is (rises c (all_forks 0 callers) f.fork rise f.here) in
      let at = get_some settings p (omega arith) in
      let n : ℕ = length parent.fork.before in
      let before : take n (list_at callers p) ≡ parent.fork.before = ap (λ m. take n (list_at callers m)) (sym same) ∙ f.before in
      let short : n < length (list_at callers p) =
      subst (λ m. n < length (list_at callers m)) same f.short in
      ap (first_found settings) f.here
      ∙ ap (λ m. found_by (slice_get settings m) f.fork.calls) fork_is
      ∙ ap (λ o. found_by o f.fork.calls) at.1
      ∙ ap (λ m. unwrap_or (slice_get at.0.items m) first_setting) f.calls_before
      ∙ ap (λ xs. unwrap_or (slice_get xs n) first_setting) (each p at.0 at.1)
      ∙ ap (λ o. unwrap_or o first_setting) (at_settings (start_setting callers p) (list_at callers p) n short)
      ∙ ap (fold setting_after_call (start_setting callers p)) before
      ∙ ap (λ s. fold setting_after_call s parent.fork.before)
      (begins_at callers (length callers) p (omega arith) ∙ sym (begins_at callers c p lower))

  -- the setting found for the fork that makes caller c is the setting with which c starts
  pub first_is : first_found settings (front_in c (all_forks 0 callers)) ≡ start_setting callers c
  first_is = at_front (parent_from c 0 callers) (at_parent c 0 callers) ∙ sym starts

pub list_found : (callers : List (Vec CalledLines)) (c : ℕ) (calls : Vec CalledLines) → c < length callers →
    calls ≡ get_or callers c calls → map seen_call calls.items ≡ list_at (seen_calls callers) c
list_found [] c calls low is = absurd (omega arith)
list_found (x ∷ callers) zero calls low is = ap (λ (v : Vec CalledLines). map seen_call v.items) is
list_found (x ∷ callers) (suc c) calls low is = list_found callers c calls (omega arith) is
