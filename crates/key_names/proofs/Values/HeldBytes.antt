-- In a lawful book, each held key has the value of its name, and the rest of each batch is keystream of its named key.
use Rattle.std.proofs.Common.{◌≡◌, ℕ, zero, suc, ◌+◌, ◌-◌, ◌*◌, Bool, true, false, List, [], ◌∷◌, ◌++◌, refl, sym, subst, ap, ◌∙◌, arith, Some, None, Option, length, take, drop, replicate}
use Rattle.std.specs.Prelude.{◌==◌, slice_get, if◌then◌else◌}
use Rattle.std.specs.List.{fold}
use Rattle.std.specs.Option.{option_map_or}
use Rattle.std.proofs.lemmas.List.{take_all, drop-drop}
use Rattle.std.proofs.lemmas.List.Sums.{fold-append}
use Rattle.key_names.specs.declared.names.KeyName.{KeyName}
use Rattle.key_names.specs.declared.names.Span.{Span}
use Rattle.key_names.specs.declared.entries.CpuEntry.{CpuEntry}
use Rattle.key_names.specs.declared.entries.CpuEntry.TheVariants.{Read, Int, Irq, Dump, Prepare, Online}
use Rattle.key_names.specs.declared.entries.VEntry.{VEntry}
use Rattle.key_names.specs.declared.entries.VEntry.TheVariants.{Rekey, Blocks, Refill, Serve, Wipe}
use Rattle.key_names.specs.Kernel.Keystream.{keystream}
use Rattle.key_names.specs.Kernel.Batches.{Fill, batch_pos, batch_step, with_zeros, one_more_served, fills_after}
use Rattle.key_names.specs.Keys.KeyInUse.{value_of, cpu_value_after, cpu_value_step, cpu_value_in_use, state_value_step}
use Rattle.key_names.specs.Keys.LiveMaterial.{KeyHolder, base_key, cpu_key, state_key, BatchHolder, cpu_batch, state_batch, live_key, live_rest, served_len, named_span, fill_rest, cpu_end, state_end, CpuBytes, cpu_bytes_start, cpu_bytes_step, StateBytes, state_bytes_start, state_bytes_step, replayed_key, replayed_batch, HoldsNamed, LawfulHoldsNamed, HalfFinishedHoldsNamed}
use Rattle.key_names.proofs.Uses.BatchBytes.{StartsZero, BatchOk, cpu_batches_ok, StateOk, state_batches_ok}
use Rattle.key_names.proofs.Lists.Growing.{lawful_take, may_at}
use Rattle.key_names.proofs.Values.Named.{every_front, call_or_named, BaseNamed, CpuNamed, cpu_named, base_named}
use Rattle.key_names.proofs.Values.StateNamed.{StateNamed, state_named}
use Rattle.key_names.specs.Lanes.CpuList.{CpuState, CpuMayCome, LawfulCpu, cpu_start, cpu_step, cpu_after, cpu_key_in_use, base_refill_of}
use Rattle.key_names.specs.Lanes.StateList.{NamedState, StateMayCome, LawfulStateList, state_start, state_step, state_after}
use Rattle.key_names.specs.Lanes.LawfulList.{LawfulFrom}
use Rattle.key_names.specs.declared.entries.BaseEntry.{BaseEntry}
use Rattle.key_names.specs.Lanes.Book.{Lists, cpu_list, state_list, ForwardLawful, LawfulStates}

-- a piece of a keystream without its first `n` bytes is the piece that begins `n` bytes later
keystream-drop : (key : List ℕ) (from n len : ℕ) → drop n (keystream key from len) ≡ keystream key (from + n) (len - n)
keystream-drop key from zero len = let p : from ≡ from + 0 = omega arith in let q : len ≡ len - 0 = omega arith in
    ap (λ f. keystream key f len) p ∙ ap (keystream key (from + 0)) q
keystream-drop key from (suc n) zero = let q : 0 ≡ 0 - suc n = omega arith in ap (keystream key (from + suc n)) q
keystream-drop key from (suc n) (suc len) =
    let p : (from + 1) + n ≡ from + suc n = omega arith in let q : len - n ≡ suc len - suc n = omega arith in
    keystream-drop key (from + 1) n len ∙ ap (λ f. keystream key f (len - n)) p ∙ ap (keystream key (from + suc n)) q

drop_zeros : (n : ℕ) (rest : List ℕ) → drop n (replicate n 0 ++ rest) ≡ rest
drop_zeros zero rest = refl
drop_zeros (suc n) rest = drop_zeros n rest

drop_both : (m n : ℕ) (rest : List ℕ) → drop (m + n) (replicate m 0 ++ replicate n 0 ++ rest) ≡ rest
drop_both zero n rest = let p : zero + n ≡ n = omega arith in ap (λ i. drop i (replicate n 0 ++ rest)) p
    ∙ drop_zeros n rest
drop_both (suc m) n rest = let p : suc m + n ≡ suc (m + n) = omega arith in
    ap (λ i. drop i (0 ∷ (replicate m 0 ++ replicate n 0 ++ rest))) p ∙ drop_both m n rest

-- if a new batch is keystream of `used` from byte `at` on, and w bytes of it were served, then its rest is keystream of
-- `used` too
new_rest : (at n w : ℕ) (key used : List ℕ) → n ≡ w → key ≡ used →
    drop n (with_zeros 0 w (keystream used at 96)) ≡ keystream key (at + n) (96 - n)
new_rest at n w key used same is =
    let q : 0 + w ≡ n = omega arith in
    ap (λ i. drop i (with_zeros 0 w (keystream used at 96))) same ∙ drop_zeros w (drop (0 + w) (keystream used at 96))
    ∙ keystream-drop used at (0 + w) 96 ∙ ap (λ i. keystream used (at + i) (96 - i)) q
    ∙ ap (λ k. keystream k (at + n) (96 - n)) (sym is)

-- let the served bytes of a batch be 0, and let the rest be keystream of the key. Then the rest is still keystream of
-- the key after `n` more bytes were served
less_rest : (at pos n : ℕ) (key bytes : List ℕ) → StartsZero pos bytes →
    drop pos bytes ≡ keystream key (at + pos) (96 - pos) →
    drop (pos + n) (with_zeros pos n bytes) ≡ keystream key (at + (pos + n)) (96 - (pos + n))
less_rest at pos n key bytes zeros is =
    let p : (at + pos) + n ≡ at + (pos + n) = omega arith in
    let q : (96 - pos) - n ≡ 96 - (pos + n) = omega arith in
    ap (λ front. drop (pos + n) (front ++ replicate n 0 ++ drop (pos + n) bytes)) zeros
    ∙ drop_both pos n (drop (pos + n) bytes)
    ∙ sym (drop-drop n pos bytes) ∙ ap (drop n) is ∙ keystream-drop key (at + pos) n (96 - pos)
    ∙ ap (λ f. keystream key f ((96 - pos) - n)) p ∙ ap (keystream key (at + (pos + n))) q

-- if `e` follows `front` in `xs`, then the place of `e` is the length of `front`
pub entry_after : {A : Type 0} (xs front : List A) (e : A) (rest : List A) → xs ≡ (front ++ e ∷ []) ++ rest →
    slice_get xs (length front) ≡ Some e
entry_after {A = A} xs front e rest is = ap (λ ys. slice_get ys (length front)) is ∙ go front
  where
    go : (front : List A) → slice_get ((front ++ e ∷ []) ++ rest) (length front) ≡ Some e
    go [] = refl
    go (x ∷ front) = go front

pub front_of : {A : Type 0} (xs front : List A) (e : A) (rest : List A) → xs ≡ (front ++ e ∷ []) ++ rest →
    take (length front) xs ≡ front
front_of {A = A} xs front e rest is = ap (take (length front)) is ∙ go front
  where
    go : (front : List A) → take (length front) ((front ++ e ∷ []) ++ rest) ≡ front
    go [] = refl
    go (x ∷ front) = ap (λ ys. x ∷ ys) (go front)

module _ (lists : Lists) where
  -- the rest of a CPU's batch is keystream of the key that the batch's fill names
  abbrev RestNamed : ℕ → Option Fill → List ℕ → Type 0
  RestNamed w o bytes = (f : Fill) (k : KeyName) → o ≡ Some f → f.key ≡ Some k →
      drop (w * f.count) bytes ≡ keystream (value_of lists k) (32 + w * f.count) (96 - w * f.count)

  fill_rest_step : (w place look : ℕ) (name : Option KeyName) (o : Option Fill) (used bytes : List ℕ) →
      ((k : KeyName) → name ≡ Some k → value_of lists k ≡ used) → RestNamed w o bytes → (b : Bool) →
      RestNamed w (if b then Some (record { key = name; place = place; count = 1; look = look }) else o)
      (if b then with_zeros 0 w (keystream used 32 96) else bytes)
  fill_rest_step w place look name o used bytes named ok false f k is key = ok f k is key
  fill_rest_step w place look name o used bytes named ok true f k is key =
      let n : name ≡ f.key = ap (λ o. option_map_or (λ (x : Fill). x.key) o None) is in
      let c : 1 ≡ f.count = ap (λ o. option_map_or (λ (x : Fill). x.count) o 1) is in
      let one : w * 1 ≡ w = omega arith in
      new_rest 32 (w * f.count) w (value_of lists k) used (ap (λ i. w * i) (sym c) ∙ one) (named k (n ∙ key))

  serve_rest_step : (w width : ℕ) (o : Option Fill) (bytes : List ℕ) → BatchOk w o bytes → RestNamed w o bytes →
      (b : Bool) →
      RestNamed w (if b then one_more_served o else o) (if b then with_zeros (batch_pos w o) w bytes else bytes)
  serve_rest_step w width o bytes ok named false f k is key = named f k is key
  serve_rest_step w width None bytes ok named true f k is key = cc
  serve_rest_step w width (Some g) bytes ok named true f k is key =
      let n : g.key ≡ f.key = ap (λ o. option_map_or (λ (x : Fill). x.key) o None) is in
      let c : suc g.count ≡ f.count = ap (λ o. option_map_or (λ (x : Fill). x.count) o 0) is in
      let more : w * g.count + w ≡ w * suc g.count = omega arith in
      let P : ℕ → Type 0 = λ i. drop i (with_zeros (w * g.count) w bytes) ≡ keystream (value_of lists k) (32 + i)
      (96 - i) in
      subst P (more ∙ ap (λ i. w * i) c)
      (less_rest 32 (w * g.count) w (value_of lists k) bytes ok.served (named g k refl (n ∙ key)))

  cpu_rest_step : (w : ℕ) (s : CpuState) (e : CpuEntry) (used bytes : List ℕ) →
      ((k : KeyName) → cpu_key_in_use e s.key ≡ Some k → value_of lists k ≡ used) → BatchOk w (s.fills w) bytes →
      RestNamed w (s.fills w) bytes →
      RestNamed w (fills_after s.place e (cpu_key_in_use e s.key) s.fills w) (batch_step w used (s.fills w) bytes e)
  cpu_rest_step w s (Read look refill taken) used bytes in_use ok named = named
  cpu_rest_step w s (Int look refill width true) used bytes in_use ok named =
      fill_rest_step w s.place look (cpu_key_in_use (Int look refill width true) s.key)
      (s.fills w) used bytes in_use named (w == width)
  cpu_rest_step w s (Int look refill width false) used bytes in_use ok named =
      serve_rest_step w width (s.fills w) bytes ok named (w == width)
  cpu_rest_step w s (Irq v1 v2 now) used bytes in_use ok named = named
  cpu_rest_step w s (Dump now) used bytes in_use ok named = named
  cpu_rest_step w s Prepare used bytes in_use ok named = λ f k is key. cc
  cpu_rest_step w s Online used bytes in_use ok named = named

  pub bytes_named : (c : ℕ) (s : CpuBytes) (es : List CpuEntry) →
      (fold (cpu_bytes_step lists c) s es).named ≡ fold (cpu_step lists.base c) s.named es
  bytes_named c s [] = refl
  bytes_named c s (e ∷ es) = bytes_named c (cpu_bytes_step lists c s e) es

  pub bytes_value : (c : ℕ) (s : CpuBytes) (es : List CpuEntry) →
      (fold (cpu_bytes_step lists c) s es).value ≡ fold (cpu_value_step lists) s.value es
  bytes_value c s [] = refl
  bytes_value c s (e ∷ es) = bytes_value c (cpu_bytes_step lists c s e) es

  abbrev bytes_at : ℕ → List CpuEntry → CpuBytes
  bytes_at c front = fold (cpu_bytes_step lists c) cpu_bytes_start front

  abbrev FrontNamed : ℕ → ℕ → List CpuEntry → Type 0
  FrontNamed c w front = RestNamed w ((bytes_at c front).named.fills w) ((bytes_at c front).batch w)

  front_named_more : (c w : ℕ) → LawfulCpu lists.base c (cpu_list lists c) →
      (front : List CpuEntry) (e : CpuEntry) (rest : List CpuEntry) →
      cpu_list lists c ≡ (front ++ e ∷ []) ++ rest → FrontNamed c w front → FrontNamed c w (front ++ e ∷ [])
  front_named_more c w lawful front e rest is named =
      let s : CpuBytes = bytes_at c front in
      let state : s.named ≡ cpu_after lists.base c front = bytes_named c cpu_bytes_start front in
      let value : s.value ≡ cpu_value_after lists front = bytes_value c cpu_bytes_start front in
      let front_lawful : LawfulCpu lists.base c front =
      (let P : List CpuEntry → Type 0 = λ es. LawfulCpu lists.base c es in
      subst P (front_of (cpu_list lists c) front e rest is)
      (lawful_take (CpuMayCome lists.base c) (cpu_step lists.base c) cpu_start (cpu_list lists c)
      (length front) lawful)) in
      let ok : BatchOk w (s.named.fills w) (s.batch w) =
      (let P : CpuState → Type 0 = λ t. BatchOk w (t.fills w) (s.batch w) in
      subst P (sym state) (cpu_batches_ok lists c w cpu_bytes_start front front_lawful
      (record { served = refl; dead = λ e. refl }))) in
      let key_named : CpuNamed lists c front = (let P : List CpuEntry → Type 0 = λ es. CpuNamed lists c es in
      subst P (front_of (cpu_list lists c) front e rest is) (cpu_named lists c (length front))) in
      let P : CpuBytes → Type 0 = λ t. RestNamed w (t.named.fills w) (t.batch w) in
      subst P (sym (fold-append (cpu_bytes_step lists c) cpu_bytes_start front (e ∷ [])))
      (cpu_rest_step w s.named e (cpu_value_in_use lists e s.value) (s.batch w)
      (λ k h. call_or_named lists (base_refill_of e) s.named.key s.value
      (λ x p. key_named x (ap (λ (t : CpuState). t.key) (sym state) ∙ p) ∙ sym value) k h)
      ok named)

  cpu_rest_named : (c w : ℕ) → LawfulCpu lists.base c (cpu_list lists c) → FrontNamed c w (cpu_list lists c)
  cpu_rest_named c w lawful =
      let P : List CpuEntry → Type 0 = λ es. FrontNamed c w es in
      subst P (take_all (length (cpu_list lists c)) (cpu_list lists c) (omega arith))
      (every_front (λ es. FrontNamed c w es) (cpu_list lists c) [] (cpu_list lists c) refl (λ f k is key. cc)
      (front_named_more c w lawful) (length (cpu_list lists c)))

  -- the rest of a state's batch is keystream of the batch's named key
  abbrev pub StateRest : NamedState → StateBytes → Type 0
  StateRest s b = (k : KeyName) → s.batch_key ≡ Some k →
      drop s.pos b.batch ≡ keystream (value_of lists k) (64 * s.batch_from + s.pos) (96 - s.pos)

  state_rest_step : (caller state : ℕ) (s : NamedState) (b : StateBytes) (e : VEntry) →
      StateMayCome (cpu_list lists) s e →
      ((k : KeyName) → s.key ≡ Some k → value_of lists k ≡ b.key) → StateOk s b.batch → StateRest s b →
      StateRest (state_step caller state s e) (state_bytes_step lists b e)
  state_rest_step caller state s b (Rekey cpu place) may named ok rest k is = cc
  state_rest_step caller state s b (Blocks from count) may named ok rest k is = rest k is
  state_rest_step caller state s b (Refill from) may named ok rest k is =
      keystream-drop b.key (64 * from) 0 96 ∙ ap (λ v. keystream v (64 * from + 0) (96 - 0)) (sym (named k is))
  state_rest_step caller state s b (Serve pos len) may named ok rest k is =
      let zeros : StartsZero pos b.batch =
      (let P : ℕ → Type 0 = λ i. StartsZero i b.batch in subst P (sym may.0.1) (ok may.0.0)) in
      let before : drop pos b.batch ≡ keystream (value_of lists k) (64 * s.batch_from + pos) (96 - pos) =
      (let P : ℕ → Type 0 = λ i. drop i b.batch ≡ keystream (value_of lists k) (64 * s.batch_from + i) (96 - i) in
      subst P (sym may.0.1) (rest k is)) in
      less_rest (64 * s.batch_from) pos len (value_of lists k) b.batch zeros before
  state_rest_step caller state s b Wipe may named ok rest k is = cc

  state_bytes_key : (b : StateBytes) (es : List VEntry) →
      (fold (state_bytes_step lists) b es).key ≡ fold (state_value_step lists) b.key es
  state_bytes_key b [] = refl
  state_bytes_key b (e ∷ es) = state_bytes_key (state_bytes_step lists b e) es

  abbrev pub StateFront : ℕ → ℕ → List VEntry → Type 0
  StateFront caller state front = StateRest (state_after caller state front)
      (fold (state_bytes_step lists) state_bytes_start front)

  pub state_front_more : (caller state : ℕ) →
      LawfulStateList (cpu_list lists) caller state (state_list lists caller state) →
      (front : List VEntry) (e : VEntry) (rest : List VEntry) →
      state_list lists caller state ≡ (front ++ e ∷ []) ++ rest →
      StateFront caller state front → StateFront caller state (front ++ e ∷ [])
  state_front_more caller state lawful front e rest is named =
      let es : List VEntry = state_list lists caller state in
      let front_is : take (length front) es ≡ front = front_of es front e rest is in
      let front_lawful : LawfulFrom (StateMayCome (cpu_list lists)) (state_step caller state) state_start front =
      (let P : List VEntry → Type 0 = λ xs. LawfulFrom (StateMayCome (cpu_list lists)) (state_step caller state)
      state_start xs in
      subst P front_is (lawful_take (StateMayCome (cpu_list lists)) (state_step caller state) state_start es
      (length front) lawful.comes)) in
      let may : StateMayCome (cpu_list lists) (state_after caller state front) e =
      (let P : List VEntry → Type 0 = λ xs. StateMayCome (cpu_list lists) (state_after caller state xs) e in
      subst P front_is (may_at (StateMayCome (cpu_list lists)) (state_step caller state) state_start es
      (length front) e lawful.comes (entry_after es front e rest is))) in
      let ok : StateOk (state_after caller state front) (fold (state_bytes_step lists) state_bytes_start front).batch =
      state_batches_ok lists (cpu_list lists) caller state state_start state_bytes_start front front_lawful
      (λ any. refl) in
      let key_named : StateNamed lists caller state front =
      (let P : List VEntry → Type 0 = λ xs. StateNamed lists caller state xs in
      subst P front_is (state_named lists caller state (length front))) in
      let P : NamedState → Type 0 = λ t. StateRest t
      (fold (state_bytes_step lists) state_bytes_start (front ++ e ∷ [])) in
      let Q : StateBytes → Type 0 = λ b. StateRest (state_step caller state (state_after caller state front) e) b in
      subst P (sym (fold-append (state_step caller state) state_start front (e ∷ [])))
      (subst Q (sym (fold-append (state_bytes_step lists) state_bytes_start front (e ∷ [])))
      (state_rest_step caller state (state_after caller state front)
      (fold (state_bytes_step lists) state_bytes_start front) e may
      (λ k h. key_named k h ∙ sym (state_bytes_key state_bytes_start front)) ok named))

  state_rest_named : (caller state : ℕ) →
      LawfulStateList (cpu_list lists) caller state (state_list lists caller state) →
      StateFront caller state (state_list lists caller state)
  state_rest_named caller state lawful =
      let P : List VEntry → Type 0 = λ xs. StateFront caller state xs in
      subst P (take_all (length (state_list lists caller state)) (state_list lists caller state) (omega arith))
      (every_front (λ xs. StateFront caller state xs) (state_list lists caller state) []
      (state_list lists caller state) refl (λ k is. cc)
      (state_front_more caller state lawful) (length (state_list lists caller state)))

  -- if `bytes` are keystream of the key that `o` names, then they are the bytes of the named span
  span_bytes : (o : Option KeyName) (from len : ℕ) (span : Span) (bytes : List ℕ) → named_span o from len ≡ Some span →
      ((k : KeyName) → o ≡ Some k → bytes ≡ keystream (value_of lists k) from len) →
      bytes ≡ keystream (value_of lists span.key) span.from span.len
  span_bytes None from len span bytes is h = cc
  span_bytes (Some key) from len span bytes is h =
      let e : record { key = key; from = from; len = len } ≡ span =
      ap (λ o. option_map_or (λ (x : Span). x) o span) is in
      let P : Span → Type 0 = λ x. bytes ≡ keystream (value_of lists x.key) x.from x.len in subst P e (h key refl)

  fill_bytes : (w : ℕ) (o : Option Fill) (span : Span) (bytes : List ℕ) → fill_rest w o ≡ Some span →
      RestNamed w o bytes →
      drop (batch_pos w o) bytes ≡ keystream (value_of lists span.key) span.from span.len
  fill_bytes w None span bytes is named = cc
  fill_bytes w (Some fill) span bytes is named =
      span_bytes fill.key (32 + w * fill.count) (96 - w * fill.count) span (drop (w * fill.count) bytes) is
      (λ k key. named fill k refl key)

  keys_named : (a : KeyHolder) (k : KeyName) → live_key lists a ≡ Some k → replayed_key lists a ≡ value_of lists k
  keys_named base_key k is =
      let all : take (length lists.base) lists.base ≡ lists.base = take_all (length lists.base) lists.base
      (omega arith) in
      let P : List BaseEntry → Type 0 = λ es. BaseNamed lists es in
      sym (subst P all (base_named lists (length lists.base)) k is)
  keys_named (cpu_key c) k is =
      let all : take (length (cpu_list lists c)) (cpu_list lists c) ≡ cpu_list lists c =
      take_all (length (cpu_list lists c)) (cpu_list lists c) (omega arith) in
      let P : List CpuEntry → Type 0 = λ es. CpuNamed lists c es in
      sym (subst P all (cpu_named lists c (length (cpu_list lists c))) k is)
  keys_named (state_key caller state) k is =
      let es : List VEntry = state_list lists caller state in
      let all : take (length es) es ≡ es = take_all (length es) es (omega arith) in
      let P : List VEntry → Type 0 = λ xs. StateNamed lists caller state xs in
      sym (subst P all (state_named lists caller state (length es)) k is)

  holds_named : ForwardLawful lists → LawfulStates lists → HoldsNamed lists
  holds_named lanes states = record { keys = keys_named; rests = rests }
    where
      rests : (a : BatchHolder) (span : Span) → live_rest lists a ≡ Some span →
          drop (served_len lists a) (replayed_batch lists a) ≡ keystream (value_of lists span.key) span.from span.len
      rests (cpu_batch c w) span is =
          let P : CpuState → Type 0 = λ t. RestNamed w (t.fills w) (replayed_batch lists (cpu_batch c w)) in
          fill_bytes w ((cpu_end lists c).fills w) span (replayed_batch lists (cpu_batch c w)) is
          (subst P (bytes_named c cpu_bytes_start (cpu_list lists c)) (cpu_rest_named c w (lanes.cpus c)))
      rests (state_batch caller state) span is =
          let s : NamedState = state_end lists caller state in
          span_bytes s.batch_key (64 * s.batch_from + s.pos) (96 - s.pos) span
          (drop s.pos (replayed_batch lists (state_batch caller state))) is
          (state_rest_named caller state (states.states caller state))

pub lawful_holds_named : LawfulHoldsNamed
lawful_holds_named lists lawful = holds_named lists lawful.lanes.forward lawful.states

pub half_finished_holds_named : HalfFinishedHoldsNamed
half_finished_holds_named lists lawful = holds_named lists lawful.lanes.forward lawful.states
