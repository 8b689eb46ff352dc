-- In a vgetrandom call with acts inside, the caller's own steps and the steps of its acts have the order of
-- `vread_items`.
use Rattle.std.proofs.Common.{◌≡◌, ◌⊎◌, inl, inr, List, [], ◌∷◌, ◌++◌, refl, sym, ap, ◌∙◌, subst}
use Rattle.key_names.specs.declared.names.Step.{Step}
use Rattle.key_names.specs.declared.point.Point.{Point}
use Rattle.key_names.specs.declared.point.Point.TheVariants.{Start, Written, Serve, End}
use Rattle.key_names.specs.Callers.Calls.{BoundAct}
use Rattle.rng_core.specs.declared.setting.Setting.{Setting}
use Rattle.rng_core.specs.Acts.{Ask, ActOutcome}
use Rattle.rng_core.specs.InsideMakes.{bound_acts}
use Rattle.caller_run.specs.Items.{Item, items_from, cut_rekey, vread_items}
use Rattle.caller_run.proofs.Events.ActSteps.{Apart, Untouched, act_items, untouched_items}
use Rattle.caller_run.proofs.Orders.CallSteps.{no_steps, no_late, own_items}
use Rattle.caller_run.proofs.Events.KeyCuts.{AreParts}
use Rattle.caller_run.proofs.Orders.OwnSteps.{Spot, view_at, line_of, items_at, OwnSteps, Reached}
use Rattle.caller_run.proofs.Orders.PartItems.{Part, part_then}

module _ (set : Setting) (asks : List Ask) where
  -- from s to t the acts at the point q keep their steps; if none of them was done at s, none is done at t
  pub record Kept (q : Point) (s t : Spot) : Type 0 where
    pub items : items_at set asks t q ≡ items_at set asks s q
    pub untouched : Untouched q asks s.outcomes → Untouched q asks t.outcomes

  pub kept_then : (q : Point) (s t u : Spot) → Kept q s t → Kept q t u → Kept q s u
  kept_then q s t u a b = record { items = b.items ∙ a.items; untouched = λ h. b.untouched (a.untouched h) }

  pub kept_own : (q : Point) (s t : Spot) (items : List Item) → OwnSteps set asks s t items → Kept q s t
  kept_own q s t items k = record {
    items = ap (λ (l : List ActOutcome). act_items set asks l q) k.outcomes;
    untouched = λ h. subst (Untouched q asks) (sym k.outcomes) h;
  }

  pub kept_at : (q p : Point) (s t : Spot) → Apart p q → Reached set asks p s t → Kept q s t
  kept_at q p s t other k = record { items = (k.elsewhere q other).0; untouched = (k.elsewhere q other).1 }

  -- from s to t a call reached its points. In this order, it made two looks, passed Start and Written, made the steps
  -- for a new key, passed Serve and End, and made the last steps
  pub record Path (s t : Spot) : Type 0 where
    pub looked : Spot
    pub started : Spot
    pub written : Spot
    pub keyed : Spot
    pub served : Spot
    pub ended : Spot
    pub first : Item
    pub second : Item
    pub rekey : List Item
    pub rest : List Item
    pub looks : OwnSteps set asks s looked (first ∷ second ∷ [])
    pub start : Reached set asks Start looked started
    pub write : Reached set asks Written started written
    pub key : OwnSteps set asks written keyed rekey
    pub serve : Reached set asks Serve keyed served
    pub end : Reached set asks End served ended
    pub goes_on : OwnSteps set asks ended t rest
    pub cut : AreParts (cut_rekey (rekey ++ rest)) rekey rest
        ⊎ ((items_at set asks t Serve ≡ []) × (items_at set asks t End ≡ []))

  module _ (s t : Spot) (new : (p : Point) → Untouched p asks s.outcomes) (empty : s.moment.steps ≡ []) (c : Path s t)
    where
      abbrev acts : List BoundAct
      acts = bound_acts set asks t.outcomes

      abbrev here : Point → List Item
      here p = items_at set asks t p

      line : line_of set asks t ≡ c.first ∷ c.second ∷ c.rekey ++ c.rest
      line = c.goes_on.line
          ∙ ap (λ (l : List Item). l ++ c.rest) (c.end.line ∙ c.serve.line ∙ c.key.line
          ∙ ap (λ (l : List Item). l ++ c.rekey) (c.write.line ∙ c.start.line ∙ c.looks.line
          ∙ ap (λ (l : List Step). items_from set.event 0 l ++ c.first ∷ c.second ∷ []) empty))

      -- suppose that the acts at a point ran from u to v, and that nothing before or after changed them. Then they made
      -- the steps that they have at the end
      at_last : (p : Point) (u v : Spot) → Reached set asks p u v → Kept p s u → Kept p v t →
          Part set.caller (view_at u) (view_at v) (here p)
      at_last p u v k before after =
          subst (Part set.caller (view_at u) (view_at v)) (sym after.items) (k.part (before.untouched (new p)))

      to_started : (q : Point) → Apart Start q → Kept q s c.started
      to_started q a = kept_then q s c.looked c.started (kept_own q s c.looked _ c.looks)
          (kept_at q Start c.looked c.started a c.start)

      to_keyed : (q : Point) → Apart Start q → Apart Written q → Kept q s c.keyed
      to_keyed q a b =
          kept_then q s c.started c.keyed (to_started q a) (kept_then q c.started c.written c.keyed
          (kept_at q Written c.started c.written b c.write) (kept_own q c.written c.keyed c.rekey c.key))

      to_served : (q : Point) → Apart Start q → Apart Written q → Apart Serve q → Kept q s c.served
      to_served q a b d = kept_then q s c.keyed c.served (to_keyed q a b) (kept_at q Serve c.keyed c.served d c.serve)

      from_ended : (q : Point) → Kept q c.ended t
      from_ended q = kept_own q c.ended t c.rest c.goes_on

      from_served : (q : Point) → Apart End q → Kept q c.served t
      from_served q a = kept_then q c.served c.ended t (kept_at q End c.served c.ended a c.end) (from_ended q)

      from_written : (q : Point) → Apart Serve q → Apart End q → Kept q c.written t
      from_written q a b =
          kept_then q c.written c.keyed t (kept_own q c.written c.keyed c.rekey c.key)
          (kept_then q c.keyed c.served t (kept_at q Serve c.keyed c.served a c.serve) (from_served q b))

      from_started : (q : Point) → Apart Written q → Apart Serve q → Apart End q → Kept q c.started t
      from_started q a b d =
          kept_then q c.started c.written t (kept_at q Written c.started c.written a c.write) (from_written q b d)

      abbrev after_write : List Item
      after_write = (c.first ∷ c.second ∷ []) ++ here Start ++ here Written

      all : Part set.caller (view_at s) (view_at t) (after_write ++ c.rekey ++ here Serve ++ here End ++ c.rest)
      all =
          let one = at_last Start c.looked c.started c.start (kept_own Start s c.looked _ c.looks)
          (from_started Start refl refl refl) in
          let two = at_last Written c.started c.written c.write (to_started Written refl)
          (from_written Written refl refl) in
          let three = at_last Serve c.keyed c.served c.serve (to_keyed Serve refl refl) (from_served Serve refl) in
          let four = at_last End c.served c.ended c.end (to_served End refl refl refl) (from_ended End) in
          part_then set.caller (view_at s) (view_at c.ended) (view_at t) _ c.rest
          (part_then set.caller (view_at s) (view_at c.served) (view_at c.ended) _ (here End)
          (part_then set.caller (view_at s) (view_at c.keyed) (view_at c.served) _ (here Serve)
          (part_then set.caller (view_at s) (view_at c.written) (view_at c.keyed) _ c.rekey
          (part_then set.caller (view_at s) (view_at c.started) (view_at c.written) _ (here Written)
          (part_then set.caller (view_at s) (view_at c.looked) (view_at c.started) _ (here Start) c.looks.part one) two)
          c.key.part) three) four) c.goes_on.part

      in_order : after_write ++ c.rekey ++ here Serve ++ here End ++ c.rest ≡ vread_items (line_of set asks t) acts
      in_order = go c.cut ∙ ap (λ (l : List Item). vread_items l acts) (sym line)
        where
          go : AreParts (cut_rekey (c.rekey ++ c.rest)) c.rekey c.rest ⊎ ((here Serve ≡ []) × (here End ≡ [])) →
              after_write ++ c.rekey ++ here Serve ++ here End ++ c.rest
              ≡ vread_items (c.first ∷ c.second ∷ c.rekey ++ c.rest) acts
          go (inl parts) = ap (λ (cut : List Item × List Item). after_write ++ cut.0 ++ here Serve ++ here End ++ cut.1)
              (sym parts)
          go (inr none) =
              no_steps c.rekey c.rest (here Serve) (here End) after_write none.0 none.1
              ∙ sym (no_late (c.first ∷ c.second ∷ c.rekey ++ c.rest) acts none.0 none.1)

      pub path_part : Part set.caller (view_at s) (view_at t) (vread_items (line_of set asks t) acts)
      path_part = subst (Part set.caller (view_at s) (view_at t)) in_order all

  -- a call that reached no point made exactly the steps of its own line
  pub quiet_part : (s t : Spot) (items : List Item) → ((p : Point) → Untouched p asks s.outcomes) → s.moment.steps ≡ [] →
      OwnSteps set asks s t items →
      Part set.caller (view_at s) (view_at t) (vread_items (line_of set asks t) (bound_acts set asks t.outcomes))
  quiet_part s t items new empty k =
      let line = k.line ∙ ap (λ (l : List Step). items_from set.event 0 l ++ items) empty in
      let none = own_items (line_of set asks t) (bound_acts set asks t.outcomes)
      (λ p. untouched_items set p asks t.outcomes ((kept_own p s t items k).untouched (new p))) in
      subst (Part set.caller (view_at s) (view_at t)) (sym (none ∙ line)) k.part
