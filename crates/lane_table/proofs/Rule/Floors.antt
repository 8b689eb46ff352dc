-- The generation that a view has seen never falls, and the core is ready if and only if the base was reseeded.
use Rattle.std.proofs.Common.{◌≡◌, ◌↔◌, ℕ, ◌<◌, ◌≤◌, List, [], ◌∷◌, Option, Some, None, length, sym, refl, ap, ◌∙◌, arith}
use Rattle.std.specs.List.{fold}
use Rattle.std.proofs.lemmas.List.Sums.{fold-append}
use Rattle.key_names.specs.declared.entries.BaseEntry.{BaseEntry}
use Rattle.key_names.specs.declared.entries.BaseEntry.TheVariants.{Early, Reseed, Tick, Draw, Refill, Fork, End, Wait, Resume, Interrupt, Stall, Unstall}
use Rattle.key_names.specs.Lanes.BaseList.{BaseState, BaseFits, empty, early, ready, reseeds_at, generation_after}
use Rattle.base_gen.specs.BaseValue.{BaseValue, after_entry}
use Rattle.lane_table.specs.declared.view.LaneEntry.{LaneEntry}
use Rattle.lane_table.specs.declared.view.LaneEntry.TheVariants.{Pool as OfPool, Base as OfBase, Cpu as OfCpu}
use Rattle.lane_table.specs.declared.view.Visit.{Visit}
use Rattle.lane_table.specs.declared.view.View.{View}
use Rattle.lane_table.specs.declared.view.Handed.{Handed}
use Rattle.lane_table.specs.Meaning.{Model, replay, model_step, start_model, base_after, base_state, LawfulLane, MayCome, Fits}
use Rattle.key_names.specs.Lanes.LawfulList.{LawfulFrom}
use Rattle.lane_table.specs.WorldRule.{Begins, known_of}
use Rattle.lane_table.specs.Steps.{Grows}
use Rattle.lane_table.specs.Advances.{floor, Agrees}

up_by : (o : Option ℕ) (g : ℕ) → g ≤ generation_after o g
up_by None g = omega arith
up_by (Some now) g = omega arith

step_up : (e : LaneEntry) (got : Handed) (b : BaseValue) → b.generation ≤ (base_after e got b).generation
step_up (OfPool e) got b = omega arith
step_up (OfBase e) got b = up_by (reseeds_at e) b.generation
step_up (OfCpu e) got b = omega arith

fold_up : (xs : List Visit) (s : Model) → s.base.generation ≤ (fold model_step s xs).base.generation
fold_up [] s = omega arith
fold_up (x ∷ xs) s = let a = step_up x.entry x.got s.base in let b = fold_up xs (model_step s x) in omega arith

pub generation_begun : (xs ys : List Visit) → Begins xs ys → (replay xs).base.generation ≤ (replay ys).base.generation
generation_begun xs ys b = let e = ap (λ (l : List Visit). (replay l).base.generation) b.1
    ∙ ap (λ (s : Model). s.base.generation) (fold-append model_step start_model xs b.0) in let k =
    fold_up b.0 (replay xs) in omega arith

pub floor_grown : (v w : View) → 1 < length v.lanes → Grows v w → v.seen ≤ w.seen → floor v ≤ floor w
floor_grown v w two grows seen = let g = generation_begun (known_of v 1) (known_of w 1) (grows 1 two) in omega arith

-- after an entry that fits, the core is ready if and only if it was reseeded
agrees_early : (b : BaseValue) → b.phase ≡ empty → Agrees b → early ≡ ready ↔ 1 ≤ b.generation
agrees_early b is k = ((λ e. absurd (cc e)), (λ one. let e : empty ≡ ready = sym is ∙ k.1 one in absurd (cc e)))

agrees_base : (e : BaseEntry) (root : List ℕ) (b : BaseValue) (s : BaseState) → s.phase ≡ b.phase → BaseFits s e →
    Agrees b → Agrees (after_entry e root b)
agrees_base (Early (Some root)) r b s at' fits k = agrees_early b (sym at' ∙ fits) k
agrees_base (Early None) r b s at' fits k = k
agrees_base (Reseed root now) r b s at' fits k = ((λ e. omega arith), (λ one. refl))
agrees_base (Tick now (Some root)) r b s at' fits k = ((λ e. omega arith), (λ one. refl))
agrees_base (Tick now None) r b s at' fits k = k
agrees_base (Draw root taken) r b s at' fits k = k
agrees_base (Refill cpu place) r b s at' fits k = k
agrees_base (Fork child) r b s at' fits k = k
agrees_base End r b s at' fits k = k
agrees_base Wait r b s at' fits k = k
agrees_base Resume r b s at' fits k = k
agrees_base Interrupt r b s at' fits k = k
agrees_base Stall r b s at' fits k = k
agrees_base Unstall r b s at' fits k = k

agrees_step : (e : LaneEntry) (got : Handed) (s : Model) → Fits s got e → Agrees s.base →
    Agrees (base_after e got s.base)
agrees_step (OfPool e) got s fits k = k
agrees_step (OfBase e) got s fits k = agrees_base e got.key s.base (base_state s.base) refl fits k
agrees_step (OfCpu e) got s fits k = k

agrees_from : (lanes : ℕ) (xs : List Visit) (s : Model) → LawfulFrom (MayCome lanes 1) model_step s xs →
    Agrees s.base → Agrees (fold model_step s xs).base
agrees_from lanes [] s lawful k = k
agrees_from lanes (x ∷ xs) s lawful k = agrees_from lanes xs (model_step s x) lawful.1
    (agrees_step x.entry x.got s lawful.0.fits k)

pub agrees_lawful : (lanes : ℕ) (xs : List Visit) → LawfulLane lanes 1 xs → Agrees (replay xs).base
agrees_lawful lanes xs lawful = agrees_from lanes xs start_model lawful
    ((λ e. absurd (cc e)), (λ one. absurd (omega arith)))
