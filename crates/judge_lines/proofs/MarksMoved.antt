-- If the marks of a lane are lawful, they stay lawful when the list of all marks is put in another order.
use Rattle.std.proofs.Common.{◌≡◌, ℕ, ◌+◌, Bool, true, false, cond, List, [], ◌∷◌, length, refl, sym, subst, ap, ◌∙◌, arith}
use Rattle.std.specs.Prelude.{count_by, ◌==◌, ◌&&◌, IsPermutation}
use Rattle.std.specs.List.{AllByRecursion, range_with_len}
use Rattle.std.proofs.lemmas.List.Sums.{sum_by-cons}
use Rattle.std.proofs.lemmas.List.Elements.{All-from_recursion, recursion_from_All}
use Rattle.std.proofs.lemmas.List.Sorted.{All-permutation, sum_by-IsPermutation, IsPermutation-sym}
use Rattle.key_names.specs.declared.names.LaneId.{LaneId}
use Rattle.key_names.specs.declared.names.Mark.{Mark}
use Rattle.key_names.specs.Transcripts.IsTranscript.{MarkBy, is_same_lane, lane_marks, PlacesConform}
use Rattle.key_names.proofs.Lists.MarkLists.{Above}
use Rattle.key_names.proofs.Lists.Each.{each_weaker}

module _ (lane : LaneId) where
  abbrev here : MarkBy → Bool
  here by = is_same_lane by.mark.lane lane

  count_here : (p : Mark → Bool) (xs : List MarkBy) →
      count_by p (lane_marks lane xs) ≡ count_by (λ by. here by && p by.mark) xs
  count_here p [] = refl
  count_here p (x ∷ xs) =
      go (here x) ∙ ap (λ n. cond (here x && p x.mark) 1 0 + n) (count_here p xs)
      ∙ sym (sum_by-cons (λ by. cond (here by && p by.mark) 1 0) x xs)
    where
      go : (b : Bool) → count_by p (cond b (x.mark ∷ lane_marks lane xs) (lane_marks lane xs))
          ≡ cond (b && p x.mark) 1 0 + count_by p (lane_marks lane xs)
      go true = sum_by-cons (λ m. cond (p m) 1 0) x.mark (lane_marks lane xs)
      go false = omega arith

  long_here : (xs : List MarkBy) → length (lane_marks lane xs) ≡ count_by here xs
  long_here [] = refl
  long_here (x ∷ xs) =
      go (here x) ∙ ap (λ n. cond (here x) 1 0 + n) (long_here xs) ∙ sym (sum_by-cons (λ by. cond (here by) 1 0) x xs)
    where
      go : (b : Bool) → length (cond b (x.mark ∷ lane_marks lane xs) (lane_marks lane xs))
          ≡ cond b 1 0 + length (lane_marks lane xs)
      go true = omega arith
      go false = omega arith

  all_to : (P : Mark → Type 0) (xs : List MarkBy) → AllByRecursion P (lane_marks lane xs) →
      AllByRecursion (λ by. here by ≡ true → P by.mark) xs
  all_to P [] all = tt
  all_to P (x ∷ xs) all = go (here x) refl (all_to P xs) all
    where
      go : (b : Bool) → here x ≡ b →
          (AllByRecursion P (lane_marks lane xs) → AllByRecursion (λ by. here by ≡ true → P by.mark) xs) →
          AllByRecursion P (cond b (x.mark ∷ lane_marks lane xs) (lane_marks lane xs)) →
          AllByRecursion (λ by. here by ≡ true → P by.mark) (x ∷ xs)
      go true is rest all = ((λ e. all.0), rest all.1)
      go false is rest all = ((λ e. cc), rest all)

  all_from : (P : Mark → Type 0) (xs : List MarkBy) → AllByRecursion (λ by. here by ≡ true → P by.mark) xs →
      AllByRecursion P (lane_marks lane xs)
  all_from P [] all = tt
  all_from P (x ∷ xs) all = go (here x) refl (all_from P xs all.1)
    where
      go : (b : Bool) → here x ≡ b → AllByRecursion P (lane_marks lane xs) →
          AllByRecursion P (cond b (x.mark ∷ lane_marks lane xs) (lane_marks lane xs))
      go true is rest = (all.0 is, rest)
      go false is rest = rest

  module _ (xs ys : List MarkBy) (same : IsPermutation xs ys) where
    any_order : (P : Mark → Type 0) → AllByRecursion P (lane_marks lane xs) → AllByRecursion P (lane_marks lane ys)
    any_order P all =
        let Q : MarkBy → Type 0 = λ by. here by ≡ true → P by.mark in
        all_from P ys
        (recursion_from_All Q ys (All-permutation Q xs ys same (All-from_recursion Q xs (all_to P xs all))))

    same_count : (p : Mark → Bool) → count_by p (lane_marks lane ys) ≡ count_by p (lane_marks lane xs)
    same_count p =
        count_here p ys ∙ sum_by-IsPermutation (λ by. cond (here by && p by.mark) 1 0) xs ys same ∙ sym (count_here p xs)

    pub same_long : length (lane_marks lane ys) ≡ length (lane_marks lane xs)
    same_long = long_here ys ∙ sum_by-IsPermutation (λ by. cond (here by) 1 0) xs ys same ∙ sym (long_here xs)

    pub lane_moved : PlacesConform (lane_marks lane xs) → PlacesConform (lane_marks lane ys)
    lane_moved conform = record {
      once = each_weaker (λ place. count_by (λ mark. mark.place == place) (lane_marks lane xs) ≡ 1)
          (λ place. count_by (λ mark. mark.place == place) (lane_marks lane ys) ≡ 1)
          (range_with_len 0 (length (lane_marks lane ys))) (λ place is. same_count (λ mark. mark.place == place) ∙ is)
          (subst (λ (n : ℕ). AllByRecursion (λ place. count_by (λ mark. mark.place == place) (lane_marks lane xs) ≡ 1)
          (range_with_len 0 n)) (sym same_long) conform.once);
      rise = any_order (λ a. AllByRecursion (Above a) (lane_marks lane ys))
          (each_weaker (λ a. AllByRecursion (Above a) (lane_marks lane xs))
          (λ a. AllByRecursion (Above a) (lane_marks lane ys)) (lane_marks lane xs)
          (λ a all. any_order (Above a) all) conform.rise);
    }

pub lane_moved_back : (lane : LaneId) (xs ys : List MarkBy) → IsPermutation xs ys → PlacesConform (lane_marks lane ys) →
    PlacesConform (lane_marks lane xs)
lane_moved_back lane xs ys same conform = lane_moved lane ys xs (IsPermutation-sym xs ys same) conform
