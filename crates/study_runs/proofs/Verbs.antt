-- Which commands a stage allows. Assumes nothing.
--
--   Verb   the ten calls, by name
use Rattle.std.proofs.Common.{◌≡◌, ℕ, ◌⊎◌, Vec, sym, refl, ap, ◌∙◌, inl, inr, arith}
use Rattle.std.specs.declared.alloc.Global.{Global}
use Rattle.numbers.specs.declared.Parts.{Parts}
use Rattle.study_terms.specs.Shapes.{Shape}
use Rattle.study_theory.specs.Runs.{Stage, Call, Allowed, may_weigh, may_begin, may_propose, may_confirm, may_withdraw, may_ask_paid, may_ask_rest, may_ask_excess, may_abandon, may_close}
use Rattle.study_theory.specs.Runs as runs
use Rattle.study_runs.specs.declared.commands.Command.{Command}
use Rattle.study_runs.specs.declared.commands.Command.TheVariants.{Weigh, Begin, Propose, Confirm, Withdraw, Paid, Rest, Excess, Abandon, Close}
use Rattle.study_runs.specs.Telling.{Makes}

data Verb : Type 0 where
  weigh begin propose confirm withdraw paid rest excess abandon close : Verb

abbrev verb_of : Command → Verb
verb_of Weigh = weigh
verb_of (Begin v) = begin
verb_of Propose = propose
verb_of (Confirm v) = confirm
verb_of Withdraw = withdraw
verb_of Paid = paid
verb_of Rest = rest
verb_of Excess = excess
verb_of Abandon = abandon
verb_of Close = close

abbrev call_verb : Call → Verb
call_verb (runs.weigh t) = weigh
call_verb (runs.begin t) = begin
call_verb (runs.propose t) = propose
call_verb (runs.confirm t) = confirm
call_verb runs.withdraw = withdraw
call_verb runs.paid = paid
call_verb runs.rest = rest
call_verb runs.excess = excess
call_verb runs.abandon = abandon
call_verb runs.close = close

-- the command of a verb without arguments
abbrev plain : Verb → Command
plain weigh = Weigh
plain begin = Weigh
plain propose = Propose
plain confirm = Weigh
plain withdraw = Withdraw
plain paid = Paid
plain rest = Rest
plain excess = Excess
plain abandon = Abandon
plain close = Close

made_verb : (d : Command) (c : Call) → Makes d c → verb_of d ≡ call_verb c
made_verb Weigh c h = sym (ap call_verb h.1)
made_verb (Begin v) c h = sym (ap call_verb h)
made_verb Propose c h = sym (ap call_verb h.1)
made_verb (Confirm v) c h = sym (ap call_verb h)
made_verb Withdraw c h = sym (ap call_verb h)
made_verb Paid c h = sym (ap call_verb h)
made_verb Rest c h = sym (ap call_verb h)
made_verb Excess c h = sym (ap call_verb h)
made_verb Abandon c h = sym (ap call_verb h)
made_verb Close c h = sym (ap call_verb h)

-- a command has arguments, or is told by its verb
each_command : (d : Command) → ((v : Vec Parts Global) × (d ≡ Begin v)) ⊎ (((v : Vec Parts Global) × (d ≡ Confirm v)) ⊎ (d ≡ plain (verb_of d)))
each_command Weigh = inr (inr refl)
each_command (Begin v) = inl (v, refl)
each_command Propose = inr (inr refl)
each_command (Confirm v) = inr (inl (v, refl))
each_command Withdraw = inr (inr refl)
each_command Paid = inr (inr refl)
each_command Rest = inr (inr refl)
each_command Excess = inr (inr refl)
each_command Abandon = inr (inr refl)
each_command Close = inr (inr refl)

-- verbs differ
weigh_begin : weigh ≡ begin → ⊥
weigh_begin e = let z : ◌≡◌ {A = ℕ} 0 1 = cc in omega arith

weigh_confirm : weigh ≡ confirm → ⊥
weigh_confirm e = let z : ◌≡◌ {A = ℕ} 0 1 = cc in omega arith

begin_confirm : begin ≡ confirm → ⊥
begin_confirm e = let z : ◌≡◌ {A = ℕ} 0 1 = cc in omega arith

-- a command with this verb
is_plain : (d : Command) (v : Verb) → (v ≡ begin → ⊥) → (v ≡ confirm → ⊥) → verb_of d ≡ v → d ≡ plain v
is_plain d v nb nc e = elim (each_command d) [
  | inl (x, q) ↦ absurd (nb (sym e ∙ ap verb_of q))
  | inr (inl (x, q)) ↦ absurd (nc (sym e ∙ ap verb_of q))
  | inr (inr q) ↦ q ∙ ap plain e
]

is_begin : (d : Command) → verb_of d ≡ begin → (v : Vec Parts Global) × (d ≡ Begin v)
is_begin d e = elim (each_command d) [
  | inl t ↦ t
  | inr (inl (x, q)) ↦ absurd (begin_confirm (sym e ∙ ap verb_of q))
  | inr (inr q) ↦ absurd (weigh_begin (ap verb_of (sym (q ∙ ap plain e)) ∙ e))
]

is_confirm : (d : Command) → verb_of d ≡ confirm → (v : Vec Parts Global) × (d ≡ Confirm v)
is_confirm d e = elim (each_command d) [
  | inl (x, q) ↦ absurd (begin_confirm (sym (ap verb_of q) ∙ e))
  | inr (inl t) ↦ t
  | inr (inr q) ↦ absurd (weigh_confirm (ap verb_of (sym (q ∙ ap plain e)) ∙ e))
]

-- in each stage all commands but those allowed make no call
pub none_new : (d : Command) → (d ≡ Weigh → ⊥) → (c : Call) → Makes d c → Allowed runs.new c → ⊥
none_new d n c h (may_weigh e) = n (is_plain d weigh weigh_begin weigh_confirm (made_verb d _ h))
none_new d n c h (may_begin e) = let z : ◌≡◌ {A = ℕ} 0 1 = cc in omega arith
none_new d n c h (may_propose e) = let z : ◌≡◌ {A = ℕ} 0 1 = cc in omega arith
none_new d n c h (may_confirm e) = let z : ◌≡◌ {A = ℕ} 0 1 = cc in omega arith
none_new d n c h (may_withdraw e) = let z : ◌≡◌ {A = ℕ} 0 1 = cc in omega arith
none_new d n c h (may_ask_paid e) = let z : ◌≡◌ {A = ℕ} 0 1 = cc in omega arith
none_new d n c h (may_ask_rest e) = let z : ◌≡◌ {A = ℕ} 0 1 = cc in omega arith
none_new d n c h (may_ask_excess e) = let z : ◌≡◌ {A = ℕ} 0 1 = cc in omega arith
none_new d n c h (may_abandon e) = let z : ◌≡◌ {A = ℕ} 0 1 = cc in omega arith
none_new d n c h (may_close e) = let z : ◌≡◌ {A = ℕ} 0 1 = cc in omega arith

pub none_weighed : (s : Shape) (d : Command) → ((v : Vec Parts Global) → d ≡ Begin v → ⊥) → (c : Call) → Makes d c → Allowed (runs.weighed s) c → ⊥
none_weighed s d n c h (may_weigh e) = let z : ◌≡◌ {A = ℕ} 0 1 = cc in omega arith
none_weighed s d n c h (may_begin e) = let t = is_begin d (made_verb d _ h) in n t.0 t.1
none_weighed s d n c h (may_propose e) = let z : ◌≡◌ {A = ℕ} 0 1 = cc in omega arith
none_weighed s d n c h (may_confirm e) = let z : ◌≡◌ {A = ℕ} 0 1 = cc in omega arith
none_weighed s d n c h (may_withdraw e) = let z : ◌≡◌ {A = ℕ} 0 1 = cc in omega arith
none_weighed s d n c h (may_ask_paid e) = let z : ◌≡◌ {A = ℕ} 0 1 = cc in omega arith
none_weighed s d n c h (may_ask_rest e) = let z : ◌≡◌ {A = ℕ} 0 1 = cc in omega arith
none_weighed s d n c h (may_ask_excess e) = let z : ◌≡◌ {A = ℕ} 0 1 = cc in omega arith
none_weighed s d n c h (may_abandon e) = let z : ◌≡◌ {A = ℕ} 0 1 = cc in omega arith
none_weighed s d n c h (may_close e) = let z : ◌≡◌ {A = ℕ} 0 1 = cc in omega arith

pub none_ordered : (s : Shape) (k : ℕ) (d : Command) → ((v : Vec Parts Global) → d ≡ Confirm v → ⊥) → (d ≡ Withdraw → ⊥) → (c : Call) → Makes d c → Allowed (runs.ordered s k) c → ⊥
none_ordered s k d n w c h (may_weigh e) = let z : ◌≡◌ {A = ℕ} 0 1 = cc in omega arith
none_ordered s k d n w c h (may_begin e) = let z : ◌≡◌ {A = ℕ} 0 1 = cc in omega arith
none_ordered s k d n w c h (may_propose e) = let z : ◌≡◌ {A = ℕ} 0 1 = cc in omega arith
none_ordered s k d n w c h (may_confirm e) = let t = is_confirm d (made_verb d _ h) in n t.0 t.1
none_ordered s k d n w c h (may_withdraw e) = w (is_plain d withdraw (λ e. let z : ◌≡◌ {A = ℕ} 0 1 = cc in omega arith) (λ e. let z : ◌≡◌ {A = ℕ} 0 1 = cc in omega arith) (made_verb d _ h))
none_ordered s k d n w c h (may_ask_paid e) = let z : ◌≡◌ {A = ℕ} 0 1 = cc in omega arith
none_ordered s k d n w c h (may_ask_rest e) = let z : ◌≡◌ {A = ℕ} 0 1 = cc in omega arith
none_ordered s k d n w c h (may_ask_excess e) = let z : ◌≡◌ {A = ℕ} 0 1 = cc in omega arith
none_ordered s k d n w c h (may_abandon e) = let z : ◌≡◌ {A = ℕ} 0 1 = cc in omega arith
none_ordered s k d n w c h (may_close e) = let z : ◌≡◌ {A = ℕ} 0 1 = cc in omega arith

-- what a study underway does not allow
pub record NotUnderway (d : Command) : Type 0 where
  pub propose : d ≡ Propose → ⊥
  pub paid : d ≡ Paid → ⊥
  pub rest : d ≡ Rest → ⊥
  pub excess : d ≡ Excess → ⊥
  pub abandon : d ≡ Abandon → ⊥
  pub close : d ≡ Close → ⊥

pub none_underway : (s : Shape) (k : ℕ) (d : Command) → NotUnderway d → (c : Call) → Makes d c → Allowed (runs.underway s k) c → ⊥
none_underway s k d n c h (may_weigh e) = let z : ◌≡◌ {A = ℕ} 0 1 = cc in omega arith
none_underway s k d n c h (may_begin e) = let z : ◌≡◌ {A = ℕ} 0 1 = cc in omega arith
none_underway s k d n c h (may_propose e) = n.propose (is_plain d propose (λ e. let z : ◌≡◌ {A = ℕ} 0 1 = cc in omega arith) (λ e. let z : ◌≡◌ {A = ℕ} 0 1 = cc in omega arith) (made_verb d _ h))
none_underway s k d n c h (may_confirm e) = let z : ◌≡◌ {A = ℕ} 0 1 = cc in omega arith
none_underway s k d n c h (may_withdraw e) = let z : ◌≡◌ {A = ℕ} 0 1 = cc in omega arith
none_underway s k d n c h (may_ask_paid e) = n.paid (is_plain d paid (λ e. let z : ◌≡◌ {A = ℕ} 0 1 = cc in omega arith) (λ e. let z : ◌≡◌ {A = ℕ} 0 1 = cc in omega arith) (made_verb d _ h))
none_underway s k d n c h (may_ask_rest e) = n.rest (is_plain d rest (λ e. let z : ◌≡◌ {A = ℕ} 0 1 = cc in omega arith) (λ e. let z : ◌≡◌ {A = ℕ} 0 1 = cc in omega arith) (made_verb d _ h))
none_underway s k d n c h (may_ask_excess e) = n.excess (is_plain d excess (λ e. let z : ◌≡◌ {A = ℕ} 0 1 = cc in omega arith) (λ e. let z : ◌≡◌ {A = ℕ} 0 1 = cc in omega arith) (made_verb d _ h))
none_underway s k d n c h (may_abandon e) = n.abandon (is_plain d abandon (λ e. let z : ◌≡◌ {A = ℕ} 0 1 = cc in omega arith) (λ e. let z : ◌≡◌ {A = ℕ} 0 1 = cc in omega arith) (made_verb d _ h))
none_underway s k d n c h (may_close e) = n.close (is_plain d close (λ e. let z : ◌≡◌ {A = ℕ} 0 1 = cc in omega arith) (λ e. let z : ◌≡◌ {A = ℕ} 0 1 = cc in omega arith) (made_verb d _ h))
