-- A room is the memory of a caller. Rooms are added to a list, and the room of the next child is taken out of it.
use Rattle.std.proofs.Common.{◌≡◌, ℕ, ◌<◌, List, [], ◌∷◌, ◌++◌, length, map, refl, ap, ◌∙◌, subst}
use Rattle.std.proofs.lemmas.List.{map-append}
use Rattle.key_names.specs.declared.events.Event.{Event}
use Rattle.key_names.specs.Lanes.Book.{list_at}
use Rattle.caller_run.specs.declared.forking.rooms.Room.{Room}
use Rattle.caller_run.specs.Forest.{forks}
use Rattle.caller_run.specs.ForkTree.{ForkTree, cleared, planted, Layout, plant, seeded, fork_tree_of, emitted_in}
use Rattle.caller_run.specs.Layouts.{layout}
use Rattle.caller_run.specs.RunningCallers.{ArePrepared, IsNewBuffers}

seeded_last : (f : ForkTree) (ps : List Layout) (p : Layout) → seeded f (ps ++ p ∷ []) ≡ plant p (seeded f ps)
seeded_last f [] p = refl
seeded_last f (q ∷ ps) p = seeded_last (plant q f) ps p

pub fork_tree_push : (xs : List Room) (x : Room) →
    fork_tree_of (map layout (xs ++ x ∷ [])) ≡ plant (layout x) (fork_tree_of (map layout xs))
fork_tree_push xs x = ap fork_tree_of (map-append layout xs (x ∷ [])) ∙ seeded_last cleared (map layout xs) (layout x)

pub fork_tree_pushed : (ys xs : List Room) (x : Room) → ys ≡ xs ++ x ∷ [] →
    fork_tree_of (map layout ys) ≡ plant (layout x) (fork_tree_of (map layout xs))
fork_tree_pushed ys xs x is = ap (λ (l : List Room). fork_tree_of (map layout l)) is ∙ fork_tree_push xs x

-- `a` is the room of the next child c, and was taken out of the list; g has the rooms of the children `cs` after c
pub record TookRoom (callers : List (List Event)) (a : Layout) (c : ℕ) (g : ForkTree) (cs : List ℕ) : Type 0 where
  pub is : a.caller ≡ c
  pub there : a.caller < length callers
  pub new : IsNewBuffers a.buffers (list_at callers a.caller)
  pub ready : ArePrepared callers a.kids (forks (list_at callers a.caller))
  pub rest : ArePrepared callers g cs

pub took_room : (callers : List (List Event)) (f g : ForkTree) (a : Layout) (c : ℕ) (cs : List ℕ) → f ≡ plant a g →
    ArePrepared callers f (c ∷ cs) → TookRoom callers a c g cs
took_room callers f g a c cs is h =
    let k = subst (λ (z : ForkTree). ArePrepared callers z (c ∷ cs)) is h in
    record { is = k.0; there = k.1; new = k.2; ready = k.3; rest = k.4 }

pub prepared_none : (callers : List (List Event)) (g : ForkTree) → ArePrepared callers g [] → emitted_in g ≡ []
prepared_none callers cleared h = refl
prepared_none callers (planted c s ks rest) h = absurd h
