use Rattle.std.proofs.Common.{◌≡◌, ◌++◌, List, ℕ, sym, ap, subst, ◌∙◌, inl, inr}
use Rattle.mta_records.specs.declared.step.Step.{Step}
use Rattle.mta_records.specs.declared.step.Step.TheVariants.{Accept, Start, Sent, Secure, Complete}
use Rattle.mta_records.specs.Body.{two_and_moment_octets, fields_of, HasFields}
use Rattle.mta_records.specs.LaneName.{lane_name_octets}
use Rattle.mta_records.specs.Fields.{a_truth}
use Rattle.mta_records.proofs.Appending.{short, with_fields, last_of_two}
use Rattle.mta_records.proofs.writing.put_fields.Goals as goal

pub put_string-requires : goal.put_string-requires
put_string-requires c =
    let fits = subst (λ (s : Step). HasFields s) c.in-Tables.is c.requires in
    short c.as_slice.result.now c.in-Tables.text c.as_slice.ensures fits

pub put_accept-requires : goal.put_accept-requires
put_accept-requires c =
    let fits = subst (λ (s : Step). HasFields s) c.in-Accept.is c.requires in
    short c.as_slice-in-Accept.result.now c.in-Accept.apdu c.as_slice-in-Accept.ensures fits.1

pub put_start-requires : goal.put_start-requires
put_start-requires c =
    let fits = subst (λ (s : Step). HasFields s) c.in-Start.is c.requires in
    short c.as_slice-in-Start.result.now c.in-Start.recipients c.as_slice-in-Start.ensures fits.1.0.0

pub put_secure-requires : goal.put_secure-requires
put_secure-requires c =
    let fits = subst (λ (s : Step). HasFields s) c.in-Secure.is c.requires in
    short c.as_slice-in-Secure.result.now c.in-Secure.piece c.as_slice-in-Secure.ensures fits.1

pub put_complete-requires : goal.put_complete-requires
put_complete-requires c =
    let fits = subst (λ (s : Step). HasFields s) c.in-Complete.is c.requires in
    short c.as_slice-in-Complete.result.now c.in-Complete.piece c.as_slice-in-Complete.ensures fits.1.0

pub put_snapshot-requires : goal.put_snapshot-requires
put_snapshot-requires c = subst (λ (s : Step). HasFields s) c.in-Snapshot.is c.requires

pub returns-in-Accept : goal.returns-in-Accept
returns-in-Accept c =
    with_fields c.put_accept.result c.args.out.now c.put_accept.new.out _ _
    (ap (λ (a : List ℕ). fields_of (Accept c.in-Accept.moment a)) c.as_slice-in-Accept.ensures
    ∙ sym (ap fields_of c.in-Accept.is)) c.put_accept.ensures

pub returns-in_ok-put_lane_name-in-LaneOpen : goal.returns-in_ok-put_lane_name-in-LaneOpen
returns-in_ok-put_lane_name-in-LaneOpen c =
    with_fields c.put_lane_terms.result c.args.out.now c.put_lane_terms.new.out _ _
    (sym (ap fields_of c.in-LaneOpen.is))
    (last_of_two c.put_lane_terms.result c.args.out.now
    (lane_name_octets (c.in-LaneOpen.role, (c.in-LaneOpen.peer, c.in-LaneOpen.reference)))
    (a_truth.spelled c.in-LaneOpen.twa
    ++ two_and_moment_octets (c.in-LaneOpen.checkpoint, (c.in-LaneOpen.window, c.in-LaneOpen.moment)))
    c.put_lane_name.new.out c.put_lane_terms.new.out
    c.in_ok-put_lane_name-in-LaneOpen.ensures c.put_lane_terms.ensures)

pub returns-in-LaneAgree : goal.returns-in-LaneAgree
returns-in-LaneAgree c =
    with_fields c.put_lane_agree.result c.args.out.now c.put_lane_agree.new.out _ _
    (sym (ap fields_of c.in-LaneAgree.is)) c.put_lane_agree.ensures

pub returns-in-Start : goal.returns-in-Start
returns-in-Start c =
    with_fields c.put_start.result c.args.out.now c.put_start.new.out _ _
    (ap (λ (a : List ℕ). fields_of (Start c.in-Start.lane c.in-Start.generation c.in-Start.activity c.in-Start.item a
    c.in-Start.moment)) c.as_slice-in-Start.ensures ∙ sym (ap fields_of c.in-Start.is)) c.put_start.ensures

pub returns-in-Refused : goal.returns-in-Refused
returns-in-Refused c =
    with_fields c.put_refused.result c.args.out.now c.put_refused.new.out _ _
    (sym (ap fields_of c.in-Refused.is)) c.put_refused.ensures

pub returns-in-Secure : goal.returns-in-Secure
returns-in-Secure c =
    with_fields c.put_secure.result c.args.out.now c.put_secure.new.out _ _
    (ap (λ (a : List ℕ). fields_of (Secure c.in-Secure.lane c.in-Secure.generation c.in-Secure.activity
    c.in-Secure.number a)) c.as_slice-in-Secure.ensures ∙ sym (ap fields_of c.in-Secure.is)) c.put_secure.ensures

pub returns-in-Complete : goal.returns-in-Complete
returns-in-Complete c =
    with_fields c.put_complete.result c.args.out.now c.put_complete.new.out _ _
    (ap (λ (a : List ℕ). fields_of (Complete c.in-Complete.lane c.in-Complete.generation c.in-Complete.activity
    c.in-Complete.number a c.in-Complete.moment)) c.as_slice-in-Complete.ensures
    ∙ sym (ap fields_of c.in-Complete.is)) c.put_complete.ensures

pub returns-in-Sent : goal.returns-in-Sent
returns-in-Sent c =
    let same : fields_of (Sent c.in-Sent.lane c.in-Sent.generation c.in-Sent.activity c.in-Sent.moment)
    ≡ fields_of c.args.step.now =
    elim c.in-Sent.is [
      | inl is ↦ sym (ap fields_of is)
      | inr is ↦ sym (ap fields_of is)
    ] in
    with_fields c.put_timed_activity.result c.args.out.now c.put_timed_activity.new.out _ _
    same c.put_timed_activity.ensures

pub returns-in-Snapshot : goal.returns-in-Snapshot
returns-in-Snapshot c =
    with_fields c.put_snapshot.result c.args.out.now c.put_snapshot.new.out _ _
    (sym (ap fields_of c.in-Snapshot.is)) c.put_snapshot.ensures
