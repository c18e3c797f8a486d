-- Octets of the components of a bind, and of the protocol data units of X.228, spell it in any order.
use Rattle.mta_rtse.specs.Bind.{no_bind}
use Rattle.mta_rtse.specs.Request.{no_request}
use Rattle.mta_rtse.specs.Answer.{no_answer}
use Rattle.mta_rtse.specs.Reason.{no_reason}
use Rattle.mta_rtse.specs.Spelling.{MakesBind, MakesRequest, MakesAnswer, MakesReason}
use Rattle.mta_set_laws.specs.UnitLaws.{BindsInAnyOrder, RequestsInAnyOrder, AnswersInAnyOrder, ReasonsInAnyOrder}
use Rattle.mta_set_laws.proofs.Orders.{spelled_in_any_order}
use Rattle.mta_set_laws.proofs.Binds.{binds_change}
use Rattle.mta_set_laws.proofs.Requests.{requests_change}
use Rattle.mta_set_laws.proofs.Answers.{answers_change}
use Rattle.mta_set_laws.proofs.Reasons.{reasons_change}

pub binds_in_any_order : BindsInAnyOrder
binds_in_any_order depth tag content octets others v h ys o = record {
  is_constructed = h.is_constructed;
  parts = h.parts;
  spelled = spelled_in_any_order MakesBind binds_change depth no_bind h.parts content h.spelled ys o;
  name = h.name;
  password = h.password;
  name_is = h.name_is;
  password_is = h.password_is;
  value = h.value;
}

pub requests_in_any_order : RequestsInAnyOrder
requests_in_any_order depth tag content octets others v h ys o = record {
  is_tag_of = h.is_tag_of;
  is_constructed = h.is_constructed;
  parts = h.parts;
  spelled = spelled_in_any_order MakesRequest requests_change depth no_request h.parts content h.spelled ys o;
  checkpoint = h.checkpoint;
  window = h.window;
  twa = h.twa;
  request = h.request;
}

pub answers_in_any_order : AnswersInAnyOrder
answers_in_any_order depth tag content octets others v h ys o = record {
  is_tag_of = h.is_tag_of;
  is_constructed = h.is_constructed;
  parts = h.parts;
  spelled = spelled_in_any_order MakesAnswer answers_change depth no_answer h.parts content h.spelled ys o;
  checkpoint = h.checkpoint;
  window = h.window;
  answer = h.answer;
}

pub reasons_in_any_order : ReasonsInAnyOrder
reasons_in_any_order number aborts depth tag content octets others reason h ys o = record {
  is_tag_of = h.is_tag_of;
  is_constructed = h.is_constructed;
  parts = h.parts;
  spelled = spelled_in_any_order MakesReason reasons_change depth (no_reason aborts) h.parts content h.spelled ys o;
  reason_is = h.reason_is;
}
