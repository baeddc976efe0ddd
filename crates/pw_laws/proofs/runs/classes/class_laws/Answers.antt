use Rattle.pw_laws.proofs.runs.classes.class_laws.Goals as goal
use Rattle.pw_laws.proofs.requests.Queues.{cancelled-queue, got-queue, has-queue, next-queue, replied-queue, sent-queue, taken-queue, works-queue}

pub returns : goal.returns
returns c = record {
  has = has-queue;
  works = works-queue;
  sent = sent-queue;
  taken = taken-queue;
  got = got-queue;
  goes_on = next-queue;
  replied = replied-queue;
  cancelled = cancelled-queue;
}
