-- Sessions, one behind the other.
use Rattle.std.proofs.Common.{◌≡◌, ◌⊎◌, inl, inr, ◌<◌, ◌≤◌, ℕ, ◌+◌, ◌*◌, ◌^◌, Bool, true, false, List, [], ◌∷◌}
use Rattle.std.proofs.Common.{Option, Some, None, refl, sym, ◌∙◌, ap, subst, arith}
use Rattle.std.proofs.lemmas.Bool.{cases_lt}
use Rattle.mta_lane_recv.specs.declared.state.Last.{Last}
use Rattle.mta_lane_send.specs.declared.state.SendState.{SendState}
use Rattle.mta_lane_send.specs.declared.state.SendState.TheVariants as state
use Rattle.mta_records.specs.Reference.{Identifier}
use Rattle.mta_records.specs.declared.step.Step.{Step}
use Rattle.mta_histories.specs.Lanes.{Transfer}
use Rattle.mta_histories.specs.Lanes.{State as SpoolState}
use Rattle.mta_session.specs.declared.event.Action.{Action}
use Rattle.mta_session.specs.declared.event.Action.TheVariants as action
use Rattle.mta_session.specs.declared.event.SessionEnd.{SessionEnd}
use Rattle.mta_session.specs.declared.event.SessionEnd.TheVariants as end
use Rattle.mta_drill_text.specs.Breaks.{breaks_up_to}
use Rattle.mta_drill_step_laws.specs.First.{AllAreFree, HasAccepted}
use Rattle.mta_drill_step_laws.specs.Second.{HasGot}
use Rattle.mta_drill_step_laws.proofs.States.{idle_is_free, none_is_free}
use Rattle.mta_drill_stage_laws.specs.Breaks.{Breaks}
use Rattle.mta_drill_stage_laws.specs.Recovering.{BearsIn, IsIn, Message, Nothing, UnderWay, again}
use Rattle.mta_drill_stage_laws.specs.Sessions.{AreFew, Before_all, Behind, Between, HasLed, HasStarted, InSession}
use Rattle.mta_drill_stage_laws.specs.Sessions.{IsDrill, IsOf, Is_again, Is_new, SessionsAreFew, SessionsLeadOn}
use Rattle.mta_drill_stage_laws.specs.Sessions.{SessionsStart, Settles}
use Rattle.mta_drill_stage_laws.specs.Settings.{FirstHolds, IsSized, IsUntouched, Of_part, SecondHolds, Setting, Stands}
use Rattle.mta_drill_stage_laws.specs.Settings.{WasBroken, octets_behind, second_lane, under_way}
use Rattle.mta_drill_stage_laws.specs.Stages.{HasEnded, StandsHalted, Was_broken, Was_closed, Was_given_back}
use Rattle.mta_drill_stage_laws.specs.Starting.{Calls}
use Rattle.mta_drill_stage_laws.specs.World.{World}
use Rattle.mta_drill_stage_laws.proofs.InSessions.{sessions_go, sessions_rest, sessions_turn}
use Rattle.mta_drill_stage_laws.proofs.Settling.{first_settled, second_settled}
use Rattle.mta_drill_stage_laws.proofs.Starting.{first_sessions_begin, later_sessions_begin}

-- ---- so many sessions at most

few_so : (x : Setting) (count n done : ℕ) (u : UnderWay) → x.count ≡ count → IsIn (again x) done u → AreFew n done u
    → n ≤ 2 * count
few_so x count n done Nothing e is few =
    let within : done ≤ x.count = is in
    let most : n ≤ 2 * done = few in
    omega (arith, e, within, most)
few_so x count n done (Message c whole transfer) e is few =
    let below : done < x.count = is.0 in
    let most : n ≤ 2 * done + 1 = few in
    omega (arith, e, below, most)

pub sessions_are_few : SessionsAreFew
sessions_are_few before count reference n first second b (Before_all x is none since new one other marks) =
    omega (arith, none)
sessions_are_few before count reference n first second b (Behind x done u got high l pieces lane few since broken is one
    other stands marks) =
    few_so x count n done u lane.count_is is few

-- ---- a session begins

-- what is known of it: how many sessions were, and where it began
pub data IsEarly (n : ℕ) (y : Setting) : Type 0 where
  At_rest : n ≤ 2 * y.since → IsEarly n y
  At_break : n ≤ 2 * y.since + 1 → y.broken + breaks_up_to y.before ≡ breaks_up_to (y.before + (y.since + 1))
      → IsEarly n y

pub record IsUnderWay (before count : ℕ) (reference : Identifier) (n : ℕ) (w : World) : Type 0 where
  pub y : Setting
  pub sized : IsSized y
  pub lane : IsOf before count reference (n + 1) y
  pub early : IsEarly n y
  pub is : InSession y w

early_so : (x : Setting) (n done : ℕ) (u : UnderWay) (b : Breaks) → AreFew n done u → x.since ≡ done
    → x.broken ≡ b.made → BearsIn (again x) done u b → IsEarly n (again x)
early_so x n done Nothing b few since broken marks =
    let most : n ≤ 2 * done = few in
    let at : n ≤ 2 * x.since = omega (arith, since, most) in
    At_rest at
early_so x n done (Message c whole transfer) b few since broken marks =
    let most : n ≤ 2 * done + 1 = few in
    let at : n ≤ 2 * x.since + 1 = omega (arith, since, most) in
    let made : b.made + breaks_up_to x.before ≡ breaks_up_to (x.before + (done + 1)) = marks.made in
    At_break at (ap (λ (m : ℕ). m + breaks_up_to x.before) broken ∙ made
    ∙ ap (λ (m : ℕ). breaks_up_to (x.before + (m + 1))) (sym since))

pub first_sized : (before count : ℕ) (reference : Identifier) (x : Setting) → IsDrill before count
    → IsOf before count reference 1 x → IsSized x
first_sized before count reference x drill lane =
    let few : count ≤ 1000 = drill.few in
    let small : before + count < 2 ^ 32 = drill.small in
    record {
      few = omega (arith, lane.count_is, few);
      small = omega (arith, lane.count_is, lane.before_is, small);
      young = omega (arith, lane.generation_is);
    }

pub again_sized : (before count : ℕ) (reference : Identifier) (n done : ℕ) (u : UnderWay) (x : Setting)
    → IsDrill before count → IsOf before count reference n x → IsIn (again x) done u → AreFew n done u
    → IsSized (again x)
again_sized before count reference n done u x drill lane is few =
    let fewer : count ≤ 1000 = drill.few in
    let small : before + count < 2 ^ 32 = drill.small in
    let most : n ≤ 2 * count = few_so x count n done u lane.count_is is few in
    let young : x.generation + 1 < 2 ^ 32 = omega (arith, lane.generation_is, most, fewer) in
    let tame : x.count ≤ 1000 = omega (arith, lane.count_is, fewer) in
    let low : x.before + x.count < 2 ^ 32 = omega (arith, lane.count_is, lane.before_is, small) in
    record { few = tame; small = low; young = young }

pub starts_so : (before count : ℕ) (reference : Identifier) (n : ℕ) (first second : SpoolState) (b : Breaks)
    (w : World) → IsDrill before count → Between before count reference n first second b
    → HasStarted reference first second b w → IsUnderWay before count reference n w
starts_so before count reference n first second b w drill
    (Before_all x lane none since new one other marks) started =
    let sized = first_sized before count reference x drill lane in
    record {
      y = x;
      sized = sized;
      lane = subst (λ (m : ℕ). IsOf before count reference (m + 1) x) (sym none) lane;
      early = At_rest (omega (arith, none));
      is = Is_new new (first_sessions_begin x first second w sized new one other
          (subst (IsUntouched x 0) (sym started.breaks_are) marks) started.whole_link
          (subst (λ r. Calls r first w.calling) (sym lane.reference_is) started.calls) started.listens);
    }
starts_so before count reference n first second b w drill
    (Behind x done u got high l pieces lane few since broken is one other stands marks) started =
    let sized = again_sized before count reference n done u x drill lane is few in
    record {
      y = again x;
      sized = sized;
      lane = record {
        before_is = lane.before_is;
        count_is = lane.count_is;
        reference_is = lane.reference_is;
        generation_is = ap (λ (m : ℕ). m + 1) lane.generation_is;
      };
      early = early_so x n done u b few since broken marks;
      is = Is_again x refl (later_sessions_begin x first second w done u got high l pieces sized is one other stands
          (subst (BearsIn (again x) done u) (sym started.breaks_are) marks) started.whole_link
          (subst (λ r. Calls r first w.calling) (sym lane.reference_is) started.calls) started.listens);
    }

pub sessions_start : SessionsStart
sessions_start before count reference n first second b w drill between started =
    let h = starts_so before count reference n first second b w drill between started in
    (h.y, h.sized, h.is)

-- ---- it ended

-- what stands of the message is what stood where the link was broken
stood_so : (ending : Bool) (done c got high : ℕ) (o : List ℕ) (l : Last) (ps : List (List ℕ))
    → StandsHalted ending done o c got high l ps → Stands ending done o c got high l ps
stood_so true done c got high o l ps h = h
stood_so false done c got high o l ps h = Of_part h.0 h.1 h.3

some_so : (ending : Bool) (done c got high : ℕ) (o : List ℕ) (l : Last) (ps : List (List ℕ))
    → StandsHalted ending done o c got high l ps → c ≡ 0 → ending ≡ true
some_so true done c got high o l ps h e = refl
some_so false done c got high o l ps h e = (let some : 1 ≤ c = h.2 in absurd (omega (arith, some, e)))

-- the lane of the second agent leaves all free
free_so : (y : Setting) (high : ℕ) (l : Last) (ps : List (List ℕ)) (z : SpoolState)
    → z.lanes.open_lanes ≡ second_lane y high l ps ∷ [] → AllAreFree z
free_so y high l ps z e = idle_is_free z (second_lane y high l ps) e refl

le_self : (m : ℕ) → m ≤ m
le_self m = omega arith

-- the setting behind a session
abbrev left_by : Setting → (given since broken : ℕ) → Setting
left_by y given since broken = record y { given = given; since = since; broken = broken }

of_so : (before count : ℕ) (reference : Identifier) (n given since broken : ℕ) (y : Setting)
    → IsOf before count reference n y → IsOf before count reference n (left_by y given since broken)
of_so before count reference n given since broken y h = record {
  before_is = h.before_is;
  count_is = h.count_is;
  reference_is = h.reference_is;
  generation_is = h.generation_is;
}

first_so : (y : Setting) (given since broken : ℕ) (s new : SpoolState) (done : ℕ) (st : SendState)
    (transfer : Option Transfer) → FirstHolds y s done st transfer → new ≡ s
    → FirstHolds (left_by y given since broken) new done st transfer
first_so y given since broken s new done st transfer h e =
    subst (λ z. FirstHolds (left_by y given since broken) z done st transfer) (sym e) (record {
      lanes = h.lanes;
      accepted = h.accepted;
      moment = h.moment;
    })

second_so : (y : Setting) (since broken : ℕ) (s new : SpoolState) (dues : List Step) (got high : ℕ) (l : Last)
    (pieces : List (List ℕ)) → SecondHolds y s got high l pieces → Settles s dues new
    → SecondHolds (left_by y got since broken) new got high l pieces
second_so y since broken s new dues got high l pieces h settles =
    let has = second_settled y.before got y.given (second_lane y high l pieces ∷ []) s new dues
    (free_so y high l pieces) h.has h.lanes h.moment settles in
    record { lanes = has.lanes; has = has.has; moment = has.moment }

abbrev is_closed : SessionEnd → Bool
is_closed end.Closed = true
is_closed _ = false

abbrev closes : Action → Bool
closes (action.Finish e) = is_closed e
closes _ = false

-- it is not closed where it ended so
other_end : (e : SessionEnd) (a : Action) → a ≡ action.Finish e → is_closed e ≡ false → a ≡ action.Finish end.Closed
    → ⊥
other_end e a is none closed =
    let same : is_closed e ≡ true = ap closes (sym is ∙ closed) in
    let never : true ≡ false = sym same ∙ none in
    absurd cc

broken_few : (n done : ℕ) (y : Setting) (b : Breaks) → IsEarly n y → WasBroken y done b → y.broken < b.made
    → n + 1 ≤ 2 * done + 1
broken_few n done y b (At_rest most) marks later = omega (arith, most, marks.since)
broken_few n done y b (At_break most were) marks later = by (cases_lt y.since done)
  where
    by : (y.since < done) ⊎ (done ≤ y.since) → n + 1 ≤ 2 * done + 1
    by (inl less) = omega (arith, most, less)
    by (inr more) =
        let same : y.since ≡ done = omega (arith, more, marks.since) in
        let made : b.made + breaks_up_to y.before ≡ breaks_up_to (y.before + (y.since + 1)) =
        marks.made ∙ ap (λ (m : ℕ). breaks_up_to (y.before + (m + 1))) (sym same) in
        absurd (omega (arith, later, were, made))

given_few : (n done : ℕ) (y : Setting) → IsEarly n y → y.since < done → n + 1 ≤ 2 * done
given_few n done y (At_rest most) less = omega (arith, most, less)
given_few n done y (At_break most were) less = omega (arith, most, less)

pub ended_so : (before count : ℕ) (reference : Identifier) (n : ℕ) (y : Setting) (v : World) (ones others : List Step)
    (first second : SpoolState) → IsOf before count reference (n + 1) y → IsEarly n y → HasEnded y v
    → Settles v.calling.spool ones first → Settles v.listening.spool others second
    → HasLed before count reference n v first second
ended_so before count reference n y v ones others first second lane early (Was_closed e f one other marks) settles all =
    let same = first_settled y.before y.count y.count v.calling.spool first ones one.accepted settles in
    let has = second_settled y.before y.count y.given [] v.listening.spool second others none_is_free other.has
    other.lanes other.moment all in
    let accepted = subst (λ z. HasAccepted y.before y.count y.count z.machine) (sym same) one.accepted in
    inl (
      e,
      record {
        accepted = subst (λ (z : ℕ). HasAccepted z count count first.machine) lane.before_is
            (subst (λ (z : ℕ). HasAccepted y.before z z first.machine) lane.count_is accepted);
        got = subst (λ (z : ℕ). HasGot z count count second.machine) lane.before_is
            (subst (λ (z : ℕ). HasGot y.before z z second.machine) lane.count_is has.has);
        broken = subst (λ (z : ℕ). v.link.breaks.made + breaks_up_to z ≡ breaks_up_to (z + count)) lane.before_is
            (subst (λ (z : ℕ). v.link.breaks.made + breaks_up_to y.before ≡ breaks_up_to (y.before + z)) lane.count_is
            marks.made);
      },
    )
ended_so before count reference n y v ones others first second lane early
    (Was_broken done c ending e f halted marks later) settles all =
    let b = v.link.breaks in
    let u = Message c ending halted.transfer in
    let same = first_settled y.before y.count done v.calling.spool first ones halted.first_holds.accepted settles in
    inr (
      other_end end.Broken v.calling.wants e refl,
      Behind (left_by y halted.got done b.made) done u halted.got
          halted.high halted.last halted.pieces (of_so before count reference (n + 1) halted.got done b.made y lane)
          (broken_few n done y b early marks later) refl refl (
            halted.below,
            record { item = halted.is.item; recipients = halted.is.recipients; octets = halted.is.octets },
            halted.more,
            some_so ending done c halted.got halted.high (octets_behind y done) halted.last halted.pieces halted.stands,
          )
          (first_so y halted.got done b.made v.calling.spool first done (under_way ending (done + 1) c)
          (Some halted.transfer) halted.first_holds same)
          (second_so y done b.made v.listening.spool second others halted.got halted.high halted.last halted.pieces
          halted.second_holds all)
          (stood_so ending done c halted.got halted.high (octets_behind y done) halted.last halted.pieces halted.stands)
          (record {
            before = marks.before;
            last = marks.last;
            made = marks.made;
            few = marks.few;
            later = le_self b.made;
            since = le_self done;
          }),
    )
ended_so before count reference n y v ones others first second lane early
    (Was_given_back done got high l pieces within since e f one other stands marks) settles all =
    let b = v.link.breaks in
    let same = first_settled y.before y.count done v.calling.spool first ones one.accepted settles in
    inr (
      other_end (end.PeerAborted 7) v.calling.wants e refl,
      Behind (left_by y got done b.made) done Nothing got high l
          pieces (of_so before count reference (n + 1) got done b.made y lane)
          (given_few n done y early since) refl refl
          within (first_so y got done b.made v.calling.spool first done (state.Idle done) None one same)
          (second_so y done b.made v.listening.spool second others got high l pieces other all) stands
          (record {
            before = marks.before;
            last = marks.last;
            made = marks.made;
            few = marks.few;
            later = le_self b.made;
            since = le_self done;
          }),
    )

pub sessions_lead_on : SessionsLeadOn
sessions_lead_on before count reference n first second b w v ones others new_first new_second drill between started
    passed settles all =
    let h = starts_so before count reference n first second b w drill between started in
    let began = sessions_go h.y w passed.began h.sized h.is passed.first_goes in
    let at = sessions_turn h.y passed.began v h.sized began passed.rested passed.went in
    ended_so before count reference n h.y v ones others new_first new_second h.lane h.early
    (sessions_rest h.y v at.0 at.1 passed.rests) settles all
