-- The laws of forms, rows and inferred entries. Each law is the contract of a function in src/laws.rt.
use Rattle.std.specs.Prelude.{ℕ, ◌≡◌, List, [], ◌∷◌, ◌++◌}
use Rattle.key_names.specs.declared.entries.Taken.TheVariants.{User}
use Rattle.key_names.specs.declared.events.Event.{Event}
use Rattle.key_names.specs.Callers.Calls.{Setting}
use Rattle.key_names.specs.Callers.Effects.{Effect}
use Rattle.key_names.specs.Callers.Forms.{SysForm, Form, EndForm}
use Rattle.key_names.specs.declared.events.Event.TheVariants.{Reseed}
use Rattle.key_names.specs.declared.events.InsideAct.{InsideAct}
use Rattle.key_names.specs.declared.events.InsideAct.TheVariants.{Wipe as WipeAct, Vread as VreadAct}
use Rattle.key_names.specs.declared.events.InsideAct.TheVariants.{Reseed as ReseedAct}
use Rattle.key_names.specs.declared.names.Step.{Step}
use Rattle.key_names.specs.Lanes.Book.{Lists, ForwardLawful}
use Rattle.key_names.specs.Callers.Effects.{looked, effects_of}
use Rattle.key_names.specs.Callers.Meaning.{ActMeans, LineMeaning}
use Rattle.judge_lines.specs.declared.inferred.Sign.{Sign}
use Rattle.judge_lines.specs.Rows.{IsActRow}
use Rattle.judge_lines.specs.LaneFacts.{facts_of}
use Rattle.judge_lines.specs.Inferred.{act_telling, AllFill, FillsPart, AllThere}
use Rattle.judge_lines.specs.Kinds.{kinds_of}
use Rattle.judge_lines.specs.Rows.{IsSystemCall, IsRow, IsEnd, cpu_for}
use Rattle.judge_lines.specs.LaneFacts.{first_crossing, CrossingsKnown, LaneFacts, AllFit}
use Rattle.input_pool.specs.PoolConforms.{crossing_of}
use Rattle.key_names.specs.Callers.LineSamples.{SamplesConform}
use Rattle.judge_lines.specs.Inferred.{LineFills, telling, reads, ends}
use Rattle.input_pool.specs.declared.pool.Crossing.{Crossing as Crossed}

-- if the entries of an event's form fit their lanes and its samples are correct, each visit has the entry inferred from
-- the steps around it
abbrev pub FormIsInferred : Type 0
FormIsInferred = (c : LaneFacts) (set : Setting) (event : Event) (effects : List Effect) → Form set event effects →
    AllFit c effects → SamplesConform c.fast effects → LineFills c set (telling set event) effects

abbrev pub EndIsInferred : Type 0
EndIsInferred = (c : LaneFacts) (set : Setting) (effects : List Effect) → EndForm effects → LineFills c set ends effects

-- if the entries of a system call fit their lanes, its visits have the inferred entries. Such a call can be a line, an
-- act, or the end of a `vread`
abbrev pub SystemCallIsInferred : Type 0
SystemCallIsInferred = (c : LaneFacts) (set : Setting) (n flags : ℕ) (effects : List Effect) → SysForm set n flags effects →
    AllFit c effects → LineFills c set (reads (User n)) effects

-- if steps have the inferred entries, and their kinds are a row of a system call, they are a system call
abbrev pub SystemRowIsForm : Type 0
SystemRowIsForm = (c : LaneFacts) (set : Setting) (n flags : ℕ) (effects : List Effect) →
    LineFills c set (reads (User n)) effects → IsSystemCall n flags (kinds_of set.cpu effects) → SysForm set n flags effects

-- if steps have the inferred entries, and their kinds are a row of `event`, they are a form of `event`. `crossed` is
-- the threshold that the first visit of the pool crossed, if any
abbrev pub RowIsForm : Type 0
RowIsForm = (c : LaneFacts) (set : Setting) (event : Event) (crossed : Crossed) (effects : List Effect) →
    crossing_of crossed ≡ first_crossing effects → CrossingsKnown c effects → LineFills c set (telling set event) effects →
    IsRow event crossed (kinds_of (cpu_for set event) effects) → Form set event effects

abbrev pub EndRowIsForm : Type 0
EndRowIsForm = (c : LaneFacts) (set : Setting) (effects : List Effect) → LineFills c set ends effects →
    IsEnd (kinds_of set.cpu effects) → EndForm effects

-- if the entries of a form of `event` fit their lanes, the kinds of its steps are a row of `event`
abbrev pub FormIsRow : Type 0
FormIsRow = (c : LaneFacts) (set : Setting) (event : Event) (crossed : Crossed) (effects : List Effect) →
    crossing_of crossed ≡ first_crossing effects → Form set event effects → AllFit c effects →
    IsRow event crossed (kinds_of (cpu_for set event) effects)

abbrev pub EndFormIsRow : Type 0
EndFormIsRow = (set : Setting) (effects : List Effect) → EndForm effects → IsEnd (kinds_of set.cpu effects)

abbrev pub SystemFormIsRow : Type 0
SystemFormIsRow = (c : LaneFacts) (set : Setting) (n flags : ℕ) (effects : List Effect) → SysForm set n flags effects →
    AllFit c effects → IsSystemCall n flags (kinds_of set.cpu effects)

-- ---- lawful lists, and acts inside a `vread`

abbrev pub ActForm : Setting → InsideAct → List Effect → Type 0
ActForm set WipeAct effects = effects ≡ []
ActForm set (VreadAct n) effects = SysForm set n 0 effects
ActForm set ReseedAct effects = Form set Reseed effects

-- if the lists of all lanes are lawful, the effects of any steps fit these lanes
abbrev pub LawfulListsFit : Type 0
LawfulListsFit = (lists : Lists) → ForwardLawful lists → (steps : List Step) →
    AllFit (facts_of lists) (effects_of lists steps)

abbrev pub ActHasForm : Type 0
ActHasForm = (set : Setting) (act : InsideAct) (m : LineMeaning) → ActMeans set act m → ActForm set act m.effects

abbrev pub ActIsInferred : Type 0
ActIsInferred = (c : LaneFacts) (set : Setting) (act : InsideAct) (effects : List Effect) → ActForm set act effects →
    AllFit c effects → LineFills c set (act_telling act) effects

abbrev pub ActRowIsForm : Type 0
ActRowIsForm = (c : LaneFacts) (set : Setting) (act : InsideAct) (effects : List Effect) →
    LineFills c set (act_telling act) effects → IsActRow act (kinds_of set.cpu effects) → ActForm set act effects

abbrev pub ActFormIsRow : Type 0
ActFormIsRow = (c : LaneFacts) (set : Setting) (act : InsideAct) (effects : List Effect) → ActForm set act effects →
    AllFit c effects → IsActRow act (kinds_of set.cpu effects)

-- suppose that the entries of `call`, by which an attempt of a `vread` reads a key, fit their lanes. If the steps after
-- the call have the inferred entries, the steps of the call have them too
abbrev pub KeyCallIsInferred : Type 0
KeyCallIsInferred = (c : LaneFacts) (set : Setting) (n : ℕ) (first : Sign) (call : List Effect) (h : ℕ) (rest : List Effect)
    (a b : Sign) → AllThere call → SysForm set 32 0 call → AllFit c call →
    ((a b : Sign) → AllFill (FillsPart c set (User 32) (User n) first) a b (looked h ∷ rest)) →
    AllFill (FillsPart c set (User 32) (User n) first) a b (call ++ looked h ∷ rest)

-- if the entries of the system call that ends a `vread` fit their lanes, its visits have the inferred entries
abbrev pub LastCallIsInferred : Type 0
LastCallIsInferred = (c : LaneFacts) (set : Setting) (n flags : ℕ) (first : Sign) (call : List Effect) (a b : Sign) →
    SysForm set n flags call → AllFit c call → AllFill (FillsPart c set (User 32) (User n) first) a b call

-- if the steps of a `vread` before a look have the kinds and the inferred entries of the system call that reads a key,
-- they are this call
abbrev pub KeyRowIsCall : Type 0
KeyRowIsCall = (c : LaneFacts) (set : Setting) (n : ℕ) (first : Sign) (call : List Effect) (h : ℕ) (rest : List Effect)
    (a b : Sign) → AllThere call → AllFill (FillsPart c set (User 32) (User n) first) a b (call ++ looked h ∷ rest) →
    IsSystemCall 32 0 (kinds_of set.cpu call) → SysForm set 32 0 call

abbrev pub LastRowIsCall : Type 0
LastRowIsCall = (c : LaneFacts) (set : Setting) (n flags : ℕ) (first : Sign) (call : List Effect) (a b : Sign) →
    AllFill (FillsPart c set (User 32) (User n) first) a b call → IsSystemCall n flags (kinds_of set.cpu call) →
    SysForm set n flags call
