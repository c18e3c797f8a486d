-- An item whose number was printed is kept.
use Rattle.std.proofs.Common.{◌≡◌, ℕ, ◌+◌, ◌%◌, ◌<◌, ◌^◌, suc, eqb, true, false, List, [], ◌∷◌}
use Rattle.std.proofs.Common.{◌++◌, length, get_or, Option}
use Rattle.std.proofs.Common.{Some, None, refl, sym, ap, subst, ◌∙◌, append_assoc, arith, inl, inr}
use Rattle.std.specs.Prelude.{slice_get}
use Rattle.std.specs.Fmt.{decimal}
use Rattle.std.proofs.lemmas.Bool.{cases_Bool, eqb-true}
use Rattle.std.proofs.lemmas.Fmt.{decimal_injective, decimal_by_steps}
use Rattle.std.proofs.lemmas.List.{append_cancel_left, append-nil, length-append}
use Rattle.mta_edge.specs.Outside.{Goes}
use Rattle.mta_edge.specs.Streams.{TakesFront}
use Rattle.mta_records.specs.declared.step.Step.{Step}
use Rattle.mta_records.specs.declared.step.Step.TheVariants.{Accept}
use Rattle.mta_records.specs.declared.state.Origin.TheVariants.{Submitted}
use Rattle.mta_machine.specs.Items.{ItemValue, Machine, numbered, set_numbered}
use Rattle.mta_machine.specs.Machine.{MachineStep, set_tables, set_format, accept, discharge, accepted_item}
use Rattle.mta_machine.specs.Machine.{discharged_item}
use Rattle.mta_machine.specs.Machine.{items_after, machine_after, machine_run}
use Rattle.mta_machine.proofs.Numbered.{set-same, set-other, numbered-front}
use Rattle.mta_histories.specs.Lanes.{State, empty}
use Rattle.mta_histories.specs.History.{ArePossible, IsHistory, StepNeeds, after, after_from, after_step}
use Rattle.mta_histories.specs.History.{class_steps, machine_left, when}
use Rattle.mta_histories.specs.Classes.{Class, class_of}
use Rattle.mta_histories.specs.Classes as classes
use Rattle.mta_stations.specs.declared.end.WorkerEnd.{WorkerEnd}
use Rattle.mta_commands.specs.declared.stop.Stop.{Stop}
use Rattle.mta_commands.specs.declared.stop.Stop.TheVariants as Stops
use Rattle.mta_words.specs.declared.words.Words.{Words}
use Rattle.mta_words.specs.declared.words.Words.TheVariants as Say
use Rattle.mta_commands.specs.Words.{Serves}
use Rattle.mta_commands.specs.Handed.{Handed, ForInput, ForOpened}
use Rattle.mta_commands.specs.Lines.{accepted_line, line_of}
use Rattle.mta_output.specs.Output.{Output}
use Rattle.mta_commands.specs.Output.{IsFront, IsEnded, done, told, cut_text, cut_line}
use Rattle.mta_commands.specs.DiskLeft.{Opening}
use Rattle.mta_commands.specs.Submit.{IsAccepted}
use Rattle.mta_commands.specs.Causes.{IsText, of_submit, of_queue, of_mailbox, of_serve, of_decode, of_drill, Cause}
use Rattle.mta_commands.proofs.Same.{some_same}
use Rattle.mta_commands.proofs.Added.{after_append, possible_back}

-- ---- the lines that are printed are told from one another

abbrev NoFeed : List ℕ → Type 0
NoFeed [] = Unit {0}
NoFeed (c ∷ cs) = (c ≡ 10 → ⊥) × NoFeed cs

NoFeed-push : (cs : List ℕ) (c : ℕ) → NoFeed cs → (c ≡ 10 → ⊥) → NoFeed (cs ++ c ∷ [])
NoFeed-push [] c h n = (n, tt)
NoFeed-push (d ∷ cs) c h n = (h.0, NoFeed-push cs c h.1 n)

no_feed : (n : ℕ) → n < 2 ^ 64 → NoFeed (decimal n)
no_feed = decimal_by_steps (λ n ds. NoFeed ds) (λ n lt. ((λ e. omega arith), tt))
    (λ n ds le h. NoFeed-push ds (48 + n % 10) h (λ e. omega arith))

same_before : (p q x y : List ℕ) → NoFeed p → NoFeed q → p ++ 10 ∷ x ≡ q ++ 10 ∷ y → p ≡ q
same_before [] [] x y f g e = refl
same_before [] (d ∷ q) x y f g e = let h : d ≡ 10 = cc in absurd (g.0 h)
same_before (c ∷ p) [] x y f g e = let h : c ≡ 10 = cc in absurd (f.0 h)
same_before (c ∷ p) (d ∷ q) x y f g e =
    let tail : p ++ 10 ∷ x ≡ q ++ 10 ∷ y = cc in
    let rest = same_before p q x y f.1 g.1 tail in
    cc

accepted_number : (n k : ℕ) (x y : List ℕ) → n < 2 ^ 32 → k < 2 ^ 32
    → accepted_line n ++ x ≡ accepted_line k ++ y → n ≡ k
accepted_number n k x y small low e =
    let tail : (decimal n ++ 10 ∷ []) ++ x ≡ (decimal k ++ 10 ∷ []) ++ y = cc in
    let behind : decimal n ++ 10 ∷ x ≡ decimal k ++ 10 ∷ y = sym (append_assoc (decimal n) (10 ∷ []) x) ∙ tail
    ∙ append_assoc (decimal k) (10 ∷ []) y in
    decimal_injective n k (omega arith) (omega arith)
    (same_before (decimal n) (decimal k) x y (no_feed n (omega arith)) (no_feed k (omega arith)) behind)

-- no stop's line begins as that of an acceptance
no_stop : (stop : Stop) (n : ℕ) (x : List ℕ) → accepted_line n ++ x ≡ line_of stop → ⊥
unfolding line_of
no_stop Stops.Usage n x e =
    let h : ◌≡◌ {A = ℕ} 97 117 = ap (λ (l : List ℕ). get_or l 0 0) e in omega (arith, h)
no_stop (Stops.Tables line kind) n x e =
    let h : ◌≡◌ {A = ℕ} 97 116 = ap (λ (l : List ℕ). get_or l 0 0) e in omega (arith, h)
no_stop (Stops.NotSpool at) n x e =
    let h : ◌≡◌ {A = ℕ} 97 110 = ap (λ (l : List ℕ). get_or l 0 0) e in omega (arith, h)
no_stop Stops.Disk n x e =
    let h : ◌≡◌ {A = ℕ} 97 100 = ap (λ (l : List ℕ). get_or l 0 0) e in omega (arith, h)
no_stop (Stops.Full size need) n x e =
    let h : ◌≡◌ {A = ℕ} 97 115 = ap (λ (l : List ℕ). get_or l 0 0) e in omega (arith, h)
no_stop (Stops.Spent last) n x e =
    let h : ◌≡◌ {A = ℕ} 97 110 = ap (λ (l : List ℕ). get_or l 0 0) e in omega (arith, h)
no_stop Stops.Memory n x e =
    let h : ◌≡◌ {A = ℕ} 97 111 = ap (λ (l : List ℕ). get_or l 0 0) e in omega (arith, h)
no_stop Stops.Source n x e =
    let h : ◌≡◌ {A = ℕ} 97 115 = ap (λ (l : List ℕ). get_or l 0 0) e in omega (arith, h)
no_stop Stops.Sink n x e = let h : ◌≡◌ {A = ℕ} 97 0 = ap (λ (l : List ℕ). get_or l 0 0) e in omega (arith, h)
no_stop (Stops.NoMailbox name) n x e =
    let h : ◌≡◌ {A = ℕ} 97 110 = ap (λ (l : List ℕ). get_or l 0 0) e in omega (arith, h)
no_stop (Stops.NoPeer name) n x e =
    let h : ◌≡◌ {A = ℕ} 97 110 = ap (λ (l : List ℕ). get_or l 0 0) e in omega (arith, h)
no_stop (Stops.BadApdu at kind) n x e =
    let h : ◌≡◌ {A = ℕ} 97 98 = ap (λ (l : List ℕ). get_or l 0 0) e in omega (arith, h)

-- what was taken, where both contents are told
at_told : {step : List ℕ → List ℕ → Type 0} {old new : Option (List ℕ)} (a b : List ℕ) → Goes step old new
    → old ≡ Some a → new ≡ Some b → step a b
at_told {step} a b goes was now =
    let x = goes.each a was in
    let same : x.0 ≡ b = cc (x.1) in
    subst (λ (y : List ℕ). step a y) same x.2

-- all of a text is a front of it
all_front : (text a b : List ℕ) → b ≡ a ++ text → TakesFront text a b
all_front text a b e =
    ([], record { whole = append-nil b ∙ e; longer = omega (arith, ap length e, length-append a text) })

-- the line that was put begins with what is read
begins : (line a b rest : List ℕ) (n : ℕ) (front : TakesFront line a b) → b ≡ a ++ accepted_line n ++ rest
    → accepted_line n ++ (rest ++ front.0) ≡ line
begins line a b rest n front e =
    let grouped : ((a ++ accepted_line n) ++ rest) ++ front.0 ≡ a ++ (accepted_line n ++ (rest ++ front.0)) =
    append_assoc (a ++ accepted_line n) rest front.0 ∙ append_assoc a (accepted_line n) (rest ++ front.0) in
    append_cancel_left a (accepted_line n ++ (rest ++ front.0)) line
    (sym grouped ∙ ap (λ (x : List ℕ). x ++ front.0) (sym e) ∙ front.1.whole)

-- ---- the Accept whose item's number was printed

words_apart : (words : Words) → (words ≡ Say.Submit → ⊥) → Some words ≡ Some Say.Submit → ⊥
words_apart words other e = other (some_same words Say.Submit e)

accepted_as : (steps added : List Step) (i : List ℕ) (n k : ℕ) → n ≡ k → IsAccepted steps added i k
    → IsAccepted steps added i n
accepted_as steps added i n k same a = subst (λ (x : ℕ). IsAccepted steps added i x) (sym same) a

module _ {D C I : Type 0} (h : Handed D C I) (ends : List WorkerEnd) (added : List Step)
    (submit : h.words ≡ Some Say.Submit) (n : ℕ) (small : n < 2 ^ 32) where
  -- where the text of `submit` begins with its line
  text_accepted : (opening : Opening) (t x y : List ℕ) → IsText h ends added opening t
      → accepted_line n ++ x ≡ t ++ y → ForInput h (λ i. ForOpened h (λ steps. IsAccepted steps added i n))
  text_accepted _ _ x y (of_submit number text word inputs few is acc) begun =
      let same : n ≡ number = accepted_number n number x y small few (begun ∙ ap (λ (l : List ℕ). l ++ y) is) in
      λ i w f found steps was s. accepted_as steps added i n number same (acc i w f found steps was s)
  text_accepted _ _ x y (of_queue text word is) begun = absurd
      (words_apart Say.Queue (λ e. absurd cc) (sym word ∙ submit))
  text_accepted _ _ x y (of_mailbox name text word named is) begun = absurd
      (words_apart (Say.Mailbox name) (λ e. absurd cc) (sym word ∙ submit))
  text_accepted _ _ x y (of_serve text serves inputs named each is) begun = absurd (subst Serves submit serves)
  text_accepted _ _ x y (of_decode text word is) begun = absurd
      (words_apart Say.Decode (λ e. absurd cc) (sym word ∙ submit))
  text_accepted _ _ x y (of_drill messages text word is) begun = absurd
      (words_apart (Say.Drill messages) (λ e. absurd cc) (sym word ∙ submit))

  -- the same, where it may be the line of a stop
  line_accepted : (opening : Opening) (t x : List ℕ) (stop : Stop) → IsFront (IsText h ends added opening) t
      → accepted_line n ++ x ≡ t ++ line_of stop
      → ForInput h (λ i. ForOpened h (λ steps. IsAccepted steps added i n))
  line_accepted opening t x stop (inl none) begun = absurd
      (no_stop stop n x (begun ∙ ap (λ (l : List ℕ). l ++ line_of stop) none))
  line_accepted opening t x stop (inr text) begun = text_accepted opening t x (line_of stop) text begun

  pub ended_accepted : (opening : Opening) (out : Output) (status : ℕ) (a b rest : List ℕ)
      → IsEnded (Cause h ends added opening) (IsText h ends added opening) out status → out.before ≡ Some a
      → out.after ≡ Some b → b ≡ a ++ accepted_line n ++ rest
      → ForInput h (λ i. ForOpened h (λ steps. IsAccepted steps added i n))
  ended_accepted opening out status a b rest (done s t text goes) was is begun =
      let front = all_front t a b (at_told a b goes was is) in
      text_accepted opening t (rest ++ front.0) [] text (begins t a b rest n front begun ∙ sym (append-nil t))
  ended_accepted opening out status a b rest (told stop why s t text goes) was is begun =
      let front = all_front (t ++ line_of stop) a b (at_told a b goes was is) in
      line_accepted opening t (rest ++ front.0) stop text (begins (t ++ line_of stop) a b rest n front begun)
  ended_accepted opening out status a b rest (cut_text s t text p) was is begun =
      let front = at_told a b p.1 was is in
      text_accepted opening t (rest ++ front.0) [] text (begins t a b rest n front begun ∙ sym (append-nil t))
  ended_accepted opening out status a b rest (cut_line s stop why t text p) was is begun =
      let front = at_told a b p.1 was is in
      line_accepted opening t (rest ++ front.0) stop text (begins (t ++ line_of stop) a b rest n front begun)

-- ---- the item that it makes

numbered_last : {A : Type 0} (xs : List A) (x : A) → numbered (xs ++ x ∷ []) (length xs + 1) ≡ Some x
numbered_last xs x = ap (numbered (xs ++ x ∷ [])) (next (length xs)) ∙ at_end xs x where
  next : (n : ℕ) → n + 1 ≡ suc n
  next n = omega arith

  at_end : {A : Type 0} (ys : List A) (y : A) → slice_get (ys ++ y ∷ []) (length ys) ≡ Some y
  at_end [] y = refl
  at_end (z ∷ ys) y = at_end ys y

-- an item with this number and these octets
abbrev pub HasItem : List ItemValue → ℕ → List ℕ → Type 0
HasItem items n octets = (item : ItemValue) × (numbered items n ≡ Some item) × (item.octets ≡ octets)

-- another item with the same octets in its place
put_keeps : (items : List ItemValue) (i n : ℕ) (old new : ItemValue) (octets : List ℕ)
    → numbered items i ≡ Some old → new.octets ≡ old.octets → HasItem items n octets
    → HasItem (set_numbered items i new) n octets
put_keeps items i n old new octets there same x =
    elim (cases_Bool (eqb n i)) [
      | inl here ↦ (
          let ni : n ≡ i = eqb-true n i here in
          let is : old ≡ x.0 = some_same old x.0 (sym there ∙ (ap (numbered items) (sym ni) ∙ x.1)) in (
            new,
            subst (λ (k : ℕ). numbered (set_numbered items i new) k ≡ Some new) (sym ni)
                (set-same items i new old there),
            same ∙ (ap (λ (item : ItemValue). item.octets) is ∙ x.2),
          ))
      | inr apart ↦ (x.0, set-other items i n new apart ∙ x.1, x.2)
    ]

front_keeps : (items more : List ItemValue) (n : ℕ) (octets : List ℕ) → HasItem items n octets
    → HasItem (items ++ more) n octets
front_keeps items more n octets x = (x.0, numbered-front items more n x.0 x.1, x.2)

-- what a step leaves of the items: each keeps its number and its octets
item_kept : (m : Machine) (step : MachineStep) (n : ℕ) (octets : List ℕ) → HasItem m.items n octets
    → HasItem (machine_after m step).items n octets
item_kept m (set_tables text) n octets x = x
item_kept m set_format n octets x = x
item_kept m (accept apdu origin moment) n octets x =
    front_keeps m.items (accepted_item apdu origin moment ∷ []) n octets x
item_kept m (discharge i rs how moment) n octets x = by_item (numbered m.items i) refl
  where
    by_item : (o : Option ItemValue) → numbered m.items i ≡ o → HasItem (items_after m o i rs how moment) n octets
    by_item None is = x
    by_item (Some item) is =
        let y = put_keeps m.items i n item (discharged_item item rs how moment) octets is refl x in
        (y.0, numbered-front (set_numbered m.items i (discharged_item item rs how moment)) _ n y.0 y.1, y.2)

items_kept : (m : Machine) (steps : List MachineStep) (n : ℕ) (octets : List ℕ) → HasItem m.items n octets
    → HasItem (machine_run m steps).items n octets
items_kept m [] n octets x = x
items_kept m (step ∷ steps) n octets x =
    items_kept (machine_after m step) steps n octets (item_kept m step n octets x)

-- A step that is possible behind another begins no history, so it leaves items as it is for the machine.
class_keeps : (s : State) (c : Class) (moment n : ℕ) (octets : List ℕ) → s.begun ≡ true → StepNeeds s c moment
    → HasItem s.machine.items n octets → HasItem (machine_left s c moment).items n octets
class_keeps s (classes.begins t) moment n octets begun needs x =
    let never : true ≡ false = sym begun ∙ needs.first in absurd cc
class_keeps s any1 moment n octets begun needs x = items_kept s.machine (class_steps s any1 moment) n octets x

history_keeps : (s : State) (steps : List Step) (n : ℕ) (octets : List ℕ) → s.begun ≡ true → ArePossible s steps
    → HasItem s.machine.items n octets → HasItem (after_from s steps).machine.items n octets
history_keeps s [] n octets begun possible x = x
history_keeps s (step ∷ steps) n octets begun possible x =
    history_keeps (after_step s step) steps n octets refl possible.1
    (class_keeps s (class_of step) (when s step) n octets begun possible.0.allowed x)

-- the item of an Accept behind which steps are added
pub accepted_kept : (steps added : List Step) (input : List ℕ) (n : ℕ) → IsHistory (steps ++ added)
    → IsAccepted steps added input n → HasItem (after (steps ++ added)).machine.items n input
accepted_kept steps added input n history a =
    let s : State = after (steps ++ a.front) in
    let step : Step = Accept a.moment input in
    let new : ItemValue = accepted_item input Submitted a.moment in
    let made : HasItem (after_step s step).machine.items n input =
    (new, rw a.number (numbered_last s.machine.items new), refl) in
    let whole : steps ++ added ≡ (steps ++ a.front) ++ step ∷ a.back = ap (λ (x : List Step). steps ++ x) a.accept
    ∙ sym (append_assoc steps a.front (step ∷ a.back)) in
    let there : after (steps ++ added) ≡ after_from (after_step s step) a.back = ap after whole ∙ after_append empty
    (steps ++ a.front) (step ∷ a.back) in
    subst (λ (x : State). HasItem x.machine.items n input) (sym there)
    (history_keeps (after_step s step) a.back n input refl
    (possible_back empty (steps ++ a.front) (step ∷ a.back) (subst IsHistory whole history)).1 made)
