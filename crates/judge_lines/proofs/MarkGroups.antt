-- The marks of the pool, of the base and of the CPUs together are all marks, in some order.
use Rattle.std.proofs.Common.{◌≡◌, cond, List, [], ◌∷◌, ◌++◌, sym, ap, ◌∙◌, subst, append_assoc}
use Rattle.std.specs.Prelude.{IsPermutation}
use Rattle.std.specs.List.{filter}
use Rattle.std.proofs.lemmas.List.Sorted.{IsPermutation-refl, IsPermutation-cons, IsPermutation-middle, IsPermutation-trans, IsPermutation-sym, IsPermutation-append_right}
use Rattle.key_names.specs.declared.names.LaneId.{LaneId}
use Rattle.key_names.specs.declared.names.LaneId.TheVariants.{Pool as PoolLane, Base as BaseLane, Cpu as CpuLane}
use Rattle.key_names.specs.Transcripts.IsTranscript.{MarkBy}
use Rattle.judge_lines.specs.declared.marks.Group.{Group}
use Rattle.judge_lines.specs.declared.marks.Group.TheVariants.{Pool, Base, Cpus}
use Rattle.judge_lines.specs.Marks.{is_in, is_by}

abbrev of : Group → List MarkBy → List MarkBy
of group xs = filter (is_by group) xs

moved : (x : MarkBy) (ys zs : List MarkBy) → IsPermutation (x ∷ (ys ++ zs)) (ys ++ x ∷ zs)
moved x ys zs = IsPermutation-sym (ys ++ x ∷ zs) (x ∷ (ys ++ zs)) (IsPermutation-middle ys x zs)

-- if mark x is added to all marks `xs` and to the marks of its own group, the three groups together are still all
-- marks, in some order
module _ (x : MarkBy) (xs pool base cpus : List MarkBy) (all : IsPermutation xs (pool ++ (base ++ cpus))) where
  to_pool : IsPermutation (x ∷ xs) (x ∷ (pool ++ (base ++ cpus)))
  to_pool = IsPermutation-cons x xs (pool ++ (base ++ cpus)) all

  to_base : IsPermutation (x ∷ xs) (pool ++ x ∷ (base ++ cpus))
  to_base = IsPermutation-trans (x ∷ xs) (x ∷ (pool ++ (base ++ cpus))) (pool ++ x ∷ (base ++ cpus)) to_pool
      (moved x pool (base ++ cpus))

  one_more : (lane : LaneId) → IsPermutation (x ∷ xs)
      (cond (is_in Pool lane) (x ∷ pool) pool
      ++ (cond (is_in Base lane) (x ∷ base) base ++ cond (is_in Cpus lane) (x ∷ cpus) cpus))
  one_more PoolLane = to_pool
  one_more BaseLane = to_base
  one_more (CpuLane c) =
      IsPermutation-trans (x ∷ xs) (pool ++ x ∷ (base ++ cpus)) (pool ++ (base ++ x ∷ cpus)) to_base
      (IsPermutation-append_right pool (x ∷ (base ++ cpus)) (base ++ x ∷ cpus) (moved x base cpus))

all_groups : (xs : List MarkBy) → IsPermutation xs (of Pool xs ++ (of Base xs ++ of Cpus xs))
all_groups [] = IsPermutation-refl []
all_groups (x ∷ xs) = one_more x xs (of Pool xs) (of Base xs) (of Cpus xs) (all_groups xs) x.mark.lane

pub groups_joined : (xs none pool base all : List MarkBy) → none ≡ [] → pool ≡ none ++ of Pool xs
    → base ≡ pool ++ of Base xs → all ≡ base ++ of Cpus xs → IsPermutation xs all
groups_joined xs none pool base all is first second third =
    let joined : all ≡ of Pool xs ++ (of Base xs ++ of Cpus xs) =
    third ∙ ap (λ l. l ++ of Cpus xs) (second ∙ ap (λ l. l ++ of Base xs) (first ∙ ap (λ l. l ++ of Pool xs) is))
    ∙ append_assoc (of Pool xs) (of Base xs) (of Cpus xs) in
    subst (IsPermutation xs) (sym joined) (all_groups xs)
