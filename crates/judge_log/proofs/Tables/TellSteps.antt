-- Loops that put rows into tables: one round of a loop puts the rows of one element, and the later rounds put the rows
-- of the elements after it.
use Rattle.std.proofs.Common.{◌≡◌, ℕ, ◌+◌, ◌<◌, ◌≤◌, List, [], ◌∷◌, ◌++◌, length, drop, get_or, map, min, refl, sym, subst, ◌∙◌, arith, ◌⊎◌, inl, inr}
use Rattle.std.proofs.Math.Nat.{min-eq_left, min-eq_right}
use Rattle.std.specs.Global.{Vec}
use Rattle.std.proofs.lemmas.List.{at_drop_all, drop_more}
use Rattle.key_names.specs.declared.names.Step.{Step}
use Rattle.key_names.specs.Callers.Calls.{Setting as CallSetting, Call}
use Rattle.key_names.proofs.Transcripts.TranscriptBooks.{lt_or_le}
use Rattle.judge_lines.specs.declared.inferred.Neighbours.{Neighbours}
use Rattle.judge_lines.specs.declared.inferred.Sign.{Sign}
use Rattle.judge_lines.specs.Inferred.{Telling, act_telling}
use Rattle.judge_lines.specs.declared.called.ActLine.{ActLine}
use Rattle.judge_lines.specs.declared.called.CalledLines.{CalledLines}
use Rattle.judge_lines.specs.Called.{seen_act, seen_call, seen_calls}
use Rattle.judge_lines.proofs.Fronts.{dropped}
use Rattle.judge_log.specs.Tables.{Tables}
use Rattle.judge_log.specs.Rows.{first_shown, step_sign, part_telling}
use Rattle.judge_log.specs.Spots.{Spot, spots_from, line_spots, acts_spots, call_spots, calls_spots, callers_spots, Changes}
use Rattle.judge_log.proofs.Tables.TableChanges.{changes_both, changes_none}

abbrev pub between : Sign → Sign → Sign → Neighbours
between a b following = record { second_before = a; before = b; following = following }

abbrev pub spot_at : CallSetting → (Neighbours → Telling) → Sign → Neighbours → Step → Spot
spot_at set tell first neighbours step =
    record { set = set; tells = tell neighbours; first = first; neighbours = neighbours; step = step }

-- putting the row of step `n`, and then the rows of the later steps, puts the rows of all steps from `n` on
pub line_more : (set : CallSetting) (tell : Neighbours → Telling) (first a b following s : Sign) (steps : List Step) (n : ℕ)
    (d : Step) (x y z : Tables) → n < length steps → following ≡ first_shown (drop (n + 1) steps) →
    s ≡ step_sign (get_or steps n d) →
    Changes (spot_at set tell first (between a b following) (get_or steps n d) ∷ []) x y →
    Changes (spots_from set tell first b s (drop (n + 1) steps)) y z →
    Changes (spots_from set tell first a b (drop n steps)) x z
line_more set tell first a b following s steps n d x y z low after_is sign_is one rest =
    let step = get_or steps n d in let more = drop (n + 1) steps in
    let rest' : Changes (spots_from set tell first b (step_sign step) more) y z =
    subst (λ t. Changes (spots_from set tell first b t more) y z) sign_is rest in
    let one' : Changes (spot_at set tell first (between a b (first_shown more)) step ∷ []) x y =
    subst (λ t. Changes (spot_at set tell first (between a b t) step ∷ []) x y) after_is one in
    subst (λ (ss : List Step). Changes (spots_from set tell first a b ss) x z) (sym (drop_more steps n d low))
    (changes_both (spot_at set tell first (between a b (first_shown more)) step ∷ [])
    (spots_from set tell first b (step_sign step) more) x y z one' rest')

-- if `n` is at least the number of steps, no row is put, and the tables `x` stay as they are
pub line_end : (set : CallSetting) (tell : Neighbours → Telling) (first a b : Sign) (steps : List Step) (n : ℕ) (x : Tables) →
    length steps ≤ n → Changes (spots_from set tell first a b (drop n steps)) x x
line_end set tell first a b steps n x high =
    subst (λ (ss : List Spot). Changes ss x x) (sym (at_drop_all (spots_from set tell first a b) steps n high)) (changes_none x)

pub acts_more : (set : CallSetting) (acts : List ActLine) (n : ℕ) (act : ActLine) (x y z : Tables) → n < length acts →
    act ≡ get_or acts n act →
    Changes (line_spots set (λ neighbours. act_telling act.act) act.line.steps.now) x y →
    Changes (acts_spots set (map seen_act (drop (n + 1) acts))) y z →
    Changes (acts_spots set (map seen_act (drop n acts))) x z
acts_more set acts n act x y z low is one rest =
    subst (λ (xs : List ActLine). Changes (acts_spots set (map seen_act xs)) x z) (sym (dropped acts n act low is))
    (changes_both (line_spots set (λ neighbours. act_telling act.act) act.line.steps.now)
    (acts_spots set (map seen_act (drop (n + 1) acts))) x y z one rest)

pub acts_end : (set : CallSetting) (acts : List ActLine) (n : ℕ) (x : Tables) → length acts ≤ n →
    Changes (acts_spots set (map seen_act (drop n acts))) x x
acts_end set acts n x high =
    subst (λ (ss : List Spot). Changes ss x x)
    (sym (at_drop_all (λ (xs : List ActLine). acts_spots set (map seen_act xs)) acts n high)) (changes_none x)

pub calls_more : (calls : List CalledLines) (sets : List CallSetting) (n : ℕ) (call : CalledLines) (set : CallSetting)
    (x y z : Tables) → n < length calls → n < length sets → call ≡ get_or calls n call → set ≡ get_or sets n set →
    Changes (call_spots set (seen_call call)) x y →
    Changes (calls_spots (map seen_call (drop (n + 1) calls)) (drop (n + 1) sets)) y z →
    Changes (calls_spots (map seen_call (drop n calls)) (drop n sets)) x z
calls_more calls sets n call set x y z low low' is is' one rest =
    subst (λ (cs : List CalledLines). Changes (calls_spots (map seen_call cs) (drop n sets)) x z)
    (sym (dropped calls n call low is))
    (subst (λ (ss : List CallSetting). Changes (calls_spots (map seen_call (call ∷ drop (n + 1) calls)) ss) x z)
    (sym (dropped sets n set low' is'))
    (changes_both (call_spots set (seen_call call)) (calls_spots (map seen_call (drop (n + 1) calls)) (drop (n + 1) sets))
    x y z one rest))

no_calls : (calls : List Call) → calls_spots calls [] ≡ []
no_calls [] = refl
no_calls (call ∷ calls) = refl

pub calls_end : (calls : List CalledLines) (sets : List CallSetting) (n : ℕ) (x : Tables) →
    (length calls ≤ n) ⊎ (length sets ≤ n) →
    Changes (calls_spots (map seen_call (drop n calls)) (drop n sets)) x x
calls_end calls sets n x (inl high) =
    subst (λ (ss : List Spot). Changes ss x x)
    (sym (at_drop_all (λ (cs : List CalledLines). calls_spots (map seen_call cs) (drop n sets)) calls n high)) (changes_none x)
calls_end calls sets n x (inr high) =
    subst (λ (ss : List Spot). Changes ss x x)
    (sym (at_drop_all (λ (ss : List CallSetting). calls_spots (map seen_call (drop n calls)) ss) sets n high
    ∙ no_calls (map seen_call (drop n calls)))) (changes_none x)

abbrev pub sets_of : List (Vec CallSetting) → List (List CallSetting)
sets_of settings = map (λ (sets : Vec CallSetting). sets.items) settings

pub callers_more : (callers : List (Vec CalledLines)) (settings : List (Vec CallSetting)) (n : ℕ) (calls : Vec CalledLines)
    (sets : Vec CallSetting) (x y z : Tables) → n < length callers → n < length settings →
    calls ≡ get_or callers n calls → sets ≡ get_or settings n sets →
    Changes (calls_spots (map seen_call calls.items) sets.items) x y →
    Changes (callers_spots (seen_calls (drop (n + 1) callers)) (sets_of (drop (n + 1) settings))) y z →
    Changes (callers_spots (seen_calls (drop n callers)) (sets_of (drop n settings))) x z
callers_more callers settings n calls sets x y z low low' is is' one rest =
    subst (λ (cs : List (Vec CalledLines)). Changes (callers_spots (seen_calls cs) (sets_of (drop n settings))) x z)
    (sym (dropped callers n calls low is))
    (subst (λ (ss : List (Vec CallSetting)). Changes (callers_spots (seen_calls (calls ∷ drop (n + 1) callers)) (sets_of ss)) x z)
    (sym (dropped settings n sets low' is'))
    (changes_both (calls_spots (map seen_call calls.items) sets.items)
    (callers_spots (seen_calls (drop (n + 1) callers)) (sets_of (drop (n + 1) settings))) x y z one rest))

no_callers : (callers : List (List Call)) → callers_spots callers [] ≡ []
no_callers [] = refl
no_callers (calls ∷ callers) = refl

pub callers_end : (callers : List (Vec CalledLines)) (settings : List (Vec CallSetting)) (n : ℕ) (x : Tables) →
    (length callers ≤ n) ⊎ (length settings ≤ n) →
    Changes (callers_spots (seen_calls (drop n callers)) (sets_of (drop n settings))) x x
callers_end callers settings n x (inl high) =
    subst (λ (ss : List Spot). Changes ss x x)
    (sym (at_drop_all (λ (cs : List (Vec CalledLines)). callers_spots (seen_calls cs) (sets_of (drop n settings))) callers n high))
    (changes_none x)
callers_end callers settings n x (inr high) =
    subst (λ (ss : List Spot). Changes ss x x)
    (sym (at_drop_all (λ (ss : List (Vec CallSetting)). callers_spots (seen_calls (drop n callers)) (sets_of ss)) settings n high
    ∙ no_callers (seen_calls (drop n callers)))) (changes_none x)

-- if index `i` is the smaller of the lengths `m` and `n`, then `i` is at or past the end of at least one of the two
-- lists
pub short_of : (i m n : ℕ) → i ≡ min m n → (m ≤ i) ⊎ (n ≤ i)
short_of i m n is = go (lt_or_le m n)
  where
    go : (m < n) ⊎ (n ≤ m) → (m ≤ i) ⊎ (n ≤ i)
    go (inl low) = inl (let le : m ≤ n = omega arith in let e : i ≡ m = is ∙ min-eq_left le in omega arith)
    go (inr high) = inr (let e : i ≡ n = is ∙ min-eq_right high in omega arith)

pub call_at : (set : CallSetting) (k l : CalledLines) (x y : Tables) → k ≡ l → Changes (call_spots set (seen_call l)) x y →
    Changes (call_spots set (seen_call k)) x y
call_at set k l x y is changes = subst (λ (m : CalledLines). Changes (call_spots set (seen_call m)) x y) (sym is) changes

pub vread_changes : (set : CallSetting) (len : ℕ) (acts acts' : List ActLine) (steps : List Step) (x y z : Tables) →
    acts' ≡ acts → Changes (acts_spots set (map seen_act acts')) x y →
    Changes (line_spots set (part_telling len) steps) y z →
    Changes (acts_spots set (map seen_act acts) ++ line_spots set (part_telling len) steps) x z
vread_changes set len acts acts' steps x y z same first second =
    changes_both (acts_spots set (map seen_act acts)) (line_spots set (part_telling len) steps) x y z
    (subst (λ (xs : List ActLine). Changes (acts_spots set (map seen_act xs)) x y) same first) second

pub calls_at : (calls calls' : List CalledLines) (sets sets' : List CallSetting) (x y : Tables) → calls' ≡ calls →
    sets' ≡ sets → Changes (calls_spots (map seen_call calls') sets') x y →
    Changes (calls_spots (map seen_call calls) sets) x y
calls_at calls calls' sets sets' x y same same' changes =
    subst (λ (cs : List CalledLines). Changes (calls_spots (map seen_call cs) sets) x y) same
    (subst (λ (ss : List CallSetting). Changes (calls_spots (map seen_call calls') ss) x y) same' changes)

-- if `m` equals `n`, the calls from `m` on make the same changes as the calls from `n` on
pub calls_from_next : (calls : List CalledLines) (sets : List CallSetting) (m n : ℕ) (x y : Tables) → m ≡ n →
    Changes (calls_spots (map seen_call (drop m calls)) (drop m sets)) x y →
    Changes (calls_spots (map seen_call (drop n calls)) (drop n sets)) x y
calls_from_next calls sets m n x y is changes =
    subst (λ k. Changes (calls_spots (map seen_call (drop k calls)) (drop k sets)) x y) is changes

pub callers_from_next : (callers : List (Vec CalledLines)) (settings : List (Vec CallSetting)) (m n : ℕ) (x y : Tables) →
    m ≡ n → Changes (callers_spots (seen_calls (drop m callers)) (sets_of (drop m settings))) x y →
    Changes (callers_spots (seen_calls (drop n callers)) (sets_of (drop n settings))) x y
callers_from_next callers settings m n x y is changes =
    subst (λ k. Changes (callers_spots (seen_calls (drop k callers)) (sets_of (drop k settings))) x y) is changes
