-- What comes of the marks, from what their calls leave.
use Rattle.std.proofs.Common.{◌≡◌, ◌+◌, ◌≤◌, ◌<◌, ℕ, List, [], ◌∷◌, Some}
use Rattle.std.proofs.Common.{None}
use Rattle.std.proofs.Common.{Result, Ok, Err, refl, sym, ap, subst, ◌∙◌, arith}
use Rattle.mta_commands.specs.declared.stop.Stop.TheVariants as AgentStops
use Rattle.mta_edge.specs.Views.{DiskLaws, DiskView, WhereTold}
use Rattle.mta_histories.specs.Lanes.{State}
use Rattle.mta_images.specs.Image.{OpensAt, in_first, in_only}
use Rattle.mta_journal.specs.Appending.{journal_limit}
use Rattle.mta_journal.specs.Bodies.{need_of}
use Rattle.mta_journal.specs.declared.journal.AppendFault.{AppendFault}
use Rattle.mta_journal.specs.declared.journal.AppendFault.TheVariants as Faults
use Rattle.mta_journal.specs.declared.why.OpenWhy.{OpenWhy}
use Rattle.mta_journal.specs.declared.why.OpenWhy.TheVariants as Whys
use Rattle.mta_marks.specs.declared.mark.Mark.{Mark}
use Rattle.mta_marks.specs.Image.{size_of}
use Rattle.mta_marks.specs.Marks.{body_of, standing}
use Rattle.mta_marks.specs.Opening.{Adds, HasNotOpened, HasOpened, Shown}
use Rattle.mta_marks.specs.Standings.{look_in}
use Rattle.mta_marks.proofs.Adding.{added_left, ended_left, refused_left, rose_then, torn_left}
use Rattle.mta_store_run.specs.Acting.{ActOutcome, Fits, HasActed, HasMarked, IsFullForMark, IsMarkedAs}
use Rattle.mta_store_run.specs.Acting.{done, failed, full, no_marks, not_opened, short, told}
use Rattle.mta_store_run.specs.Asked.{IsAsked}
use Rattle.mta_store_run.specs.Decided.{IsAnswered}
use Rattle.mta_store_run.specs.Stops.{stop_of_marks}
use Rattle.mta_store_run.specs.Store.{Answer, answer_of, gives}
use Rattle.mta_store_run.specs.declared.asked.Asked.{Asked}
use Rattle.mta_store_run.specs.declared.deciding.Decision.{Decision}
use Rattle.mta_store_run.specs.declared.stop.Stop.{Stop}
use Rattle.mta_store_run.specs.declared.stop.Stop.TheVariants as Stops
use Rattle.mta_store_run.proofs.Looks.{answers_same, mark_possible}

-- records stand from one gate on
gate_same : (f : List ℕ) (a b : ℕ) → OpensAt f a → OpensAt f b → a ≡ b
gate_same f a b (in_only p only) (in_only q other) = p ∙ sym q
gate_same f a b (in_only p only) (in_first q none) = absurd (none only)
gate_same f a b (in_first p none) (in_only q only) = absurd (none only)
gate_same f a b (in_first p none) (in_first q other) = p ∙ sym q

module _ {E : Type 0} (model : DiskView E) (laws : DiskLaws model) (asked : Asked) (is : IsAsked asked) (s : State)
    (old : E) where
  -- ---- the marks were not opened

  pub acted_refused : (new : E) (why : OpenWhy) → HasNotOpened model old new why
      → HasActed model asked s old new (Err (stop_of_marks why))
  acted_refused new (Whys.NotSpool at) x =
      record { added = []; torn_mark = []; left = x.left; outcome = no_marks at (x.not_marks at refl) }
  acted_refused new Whys.Disk x =
      record { added = []; torn_mark = []; left = x.left; outcome = not_opened (x.disk refl) }
  acted_refused new Whys.Memory x = record { added = []; torn_mark = []; left = x.left; outcome = short }

  -- ---- they were

  module _ (m : Shown E) (o : HasOpened model old m) where
    by_marks : answer_of asked s (look_in m.entries) ≡ answer_of asked s (standing o.marks)
    by_marks = answers_same asked s m.entries o.marks is o.held.knows o.held.are

    answered : (result : Result Decision Stop) → IsAnswered asked (answer_of asked s (look_in m.entries)) result
        → IsAnswered asked (answer_of asked s (standing o.marks)) result
    answered result = subst (λ (x : Answer). IsAnswered asked x result) by_marks

    -- a text without a mark
    pub acted_unmarked : (text : List ℕ) → answer_of asked s (look_in m.entries) ≡ gives text None
        → HasActed model asked s old m.journal.disk (Ok text)
    acted_unmarked text e = record {
      added = [];
      torn_mark = [];
      left = ended_left model laws old m o;
      outcome = done o.marks text None o.stood (sym by_marks ∙ e) (λ g was. tt);
    }

    -- the answer is told
    told_outcome : (stop : Stop) → IsAnswered asked (answer_of asked s (standing o.marks)) (Err stop)
        → ActOutcome model asked s old m.journal.disk [] [] (Err stop)
    told_outcome Stops.Usage tells = absurd tells
    told_outcome (Stops.NoEntry number) tells = told o.marks (Stops.NoEntry number) o.stood tells
    told_outcome (Stops.NotFetched number) tells = told o.marks (Stops.NotFetched number) o.stood tells
    told_outcome (Stops.NotMarks at) tells = absurd tells
    told_outcome (Stops.Agent AgentStops.Memory) tells = short
    told_outcome (Stops.Agent (AgentStops.NoMailbox name)) tells =
        told o.marks (Stops.Agent (AgentStops.NoMailbox name)) o.stood tells
    told_outcome (Stops.Agent AgentStops.Usage) tells = absurd tells
    told_outcome (Stops.Agent (AgentStops.Tables line kind)) tells = absurd tells
    told_outcome (Stops.Agent (AgentStops.NotSpool at)) tells = absurd tells
    told_outcome (Stops.Agent AgentStops.Disk) tells = absurd tells
    told_outcome (Stops.Agent (AgentStops.Full size need)) tells = absurd tells
    told_outcome (Stops.Agent (AgentStops.Spent last)) tells = absurd tells
    told_outcome (Stops.Agent AgentStops.Source) tells = absurd tells
    told_outcome (Stops.Agent AgentStops.Sink) tells = absurd tells
    told_outcome (Stops.Agent (AgentStops.NoPeer name)) tells = absurd tells
    told_outcome (Stops.Agent (AgentStops.BadApdu at kind)) tells = absurd tells

    pub acted_told : (stop : Stop) → IsAnswered asked (answer_of asked s (look_in m.entries)) (Err stop)
        → HasActed model asked s old m.journal.disk (Err stop)
    acted_told stop tells = record {
      added = [];
      torn_mark = [];
      left = ended_left model laws old m o;
      outcome = told_outcome stop (answered (Err stop) tells);
    }

    -- ---- a text with a mark

    module _ (text : List ℕ) (mark : Mark) (e : answer_of asked s (look_in m.entries) ≡ gives text (Some mark)) where
      here : answer_of asked s (standing o.marks) ≡ gives text (Some mark)
      here = sym by_marks ∙ e

      -- the octets of the journal are those that one of these marks has
      size_there : (g : List ℕ) → model.content old ≡ Some g → (gate : ℕ) → OpensAt g gate
          → size_of gate o.marks ≡ m.journal.size
      size_there g was gate at =
          ap (λ (n : ℕ). size_of n o.marks) (gate_same g gate m.journal.first at (o.place g was))
          ∙ sym o.held.holds.size

      full_there : (size need : ℕ) → size ≡ m.journal.size → need ≡ need_of (body_of mark)
          → journal_limit < size + need → WhereTold model old (λ g. IsFullForMark g o.marks mark size need)
      full_there size need is_size is_need over g was = record {
        used = (m.journal.first, o.place g was, is_size ∙ o.held.holds.size);
        need_is = is_need;
        over = over;
      }

      fits_there : m.journal.size + need_of (body_of mark) ≤ journal_limit
          → WhereTold model old (λ g. Fits g o.marks (Some mark))
      fits_there fits g was size need x =
          let same = x.used.2 ∙ size_there g was x.used.0 x.used.1 in
          let need_is = x.need_is in
          let over = x.over in
          omega (arith, fits, same, need_is, over)

      by_result : (new : E) (appended : Result (Unit {0}) AppendFault) (result : Result (List ℕ) Stop)
          → Adds model o.marks mark m new appended → IsMarkedAs appended text result
          → HasActed model asked s old new result
      by_result new (Ok done_it) result a e =
          subst (HasActed model asked s old new) (sym e)
          (record {
            added = mark ∷ [];
            torn_mark = [];
            left = added_left model laws old m o mark new a;
            outcome = done o.marks text (Some mark) o.stood here (fits_there (a.fits refl));
          })
      by_result new (Err (Faults.Full size need)) result a e =
          let f = a.full size need refl in
          subst (HasActed model asked s old new) (sym e)
          (record {
            added = [];
            torn_mark = [];
            left = refused_left model laws old m o mark new (Faults.Full size need) (λ w. absurd cc) a;
            outcome = full o.marks mark text size need o.stood here (full_there size need f.0 f.1 f.2);
          })
      by_result new (Err Faults.Disk) result a e =
          subst (HasActed model asked s old new) (sym e)
          (record {
            added = [];
            torn_mark = mark ∷ [];
            left = torn_left model laws old m o mark new a;
            outcome = failed o.marks mark text o.stood here (rose_then model laws old m o mark new a);
          })
      by_result new (Err Faults.Ended) result a e = absurd (a.going refl)
      by_result new (Err Faults.Memory) result a e =
          subst (HasActed model asked s old new) (sym e)
          (record {
            added = [];
            torn_mark = [];
            left = refused_left model laws old m o mark new Faults.Memory (λ w. absurd cc) a;
            outcome = short;
          })

      pub acted_marked : (new : E) (result : Result (List ℕ) Stop) → HasMarked model m mark text new result
          → HasActed model asked s old new result
      acted_marked new result h =
          let can = mark_possible asked s o.marks text mark is here in
          by_result new h.appended result (h.adds o.marks o.held can.1) h.result_is
