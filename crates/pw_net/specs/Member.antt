-- A member: what it keeps, and what each of its calls leaves and sends.
use Rattle.std.specs.Prelude.{ℕ, ◌+◌, List, [], Option, Some, None, map}
use Rattle.std.specs.BTreeMap.{insert_entry, is_at}
use Rattle.std.specs.Map.{lookup}
use Rattle.std.specs.Ordering.{nat_cmp, ordering_then}
use Rattle.std.specs.declared.cmp.Ordering.{Ordering}
use Rattle.pw_net.specs.Rules.{Reply, on_word, on_refuse, on_wait, on_end, told_each, standing_after_restart}
use Rattle.pw_net.specs.declared.message.Mark.{Mark}
use Rattle.pw_net.specs.declared.message.Mark.TheVariants as mark
use Rattle.pw_net.specs.declared.message.Net.{Net}
use Rattle.pw_net.specs.declared.message.NetId.{NetId}
use Rattle.pw_net.specs.declared.message.NetWord.{NetWord}
use Rattle.pw_net.specs.declared.message.NetWord.TheVariants.{Prepare}
use Rattle.pw_net.specs.declared.standing.TransactionState.{TransactionState}
use Rattle.pw_net.specs.declared.standing.TransactionState.TheVariants.{Collecting, Prepared, Committed, Aborted}

-- its system, the last number that it began, and the standing of each transaction, by home and
-- number
pub record Member : Type 0 where
  pub system : ℕ
  pub last : ℕ
  pub standings : List (NetId × TransactionState)

-- transactions are in the order of their homes, and of one home in that of their numbers
abbrev pub id_order : NetId → NetId → Ordering
id_order one other = ordering_then (nat_cmp one.home other.home) (nat_cmp one.number other.number)

-- how the member stands to a transaction, if it has a mark
abbrev pub standing_of : Member → NetId → Option TransactionState
standing_of member id = lookup (is_at (id_order id)) member.standings

-- the mark of a standing
abbrev pub mark_in : TransactionState → Mark
mark_in (Collecting ballot) = mark.Collecting
mark_in Prepared = mark.Prepared
mark_in Committed = mark.Committed
mark_in Aborted = mark.Aborted

-- the mark of a transaction, if it has one
abbrev pub mark_of : Option TransactionState → Option Mark
mark_of None = None
mark_of (Some standing) = Some (mark_in standing)

-- what a call leaves, and the messages to send in order
pub record MemberOutcome : Type 0 where
  pub member : Member
  pub messages : List Net

-- the member with this standing of the transaction, where there is a new one
abbrev pub turned : Member → NetId → Option TransactionState → Member
turned member id None = member
turned member id (Some standing) =
    record member { standings = insert_entry id_order member.standings id standing }

-- what a reply about the transaction comes to
abbrev pub replied : Member → NetId → Reply → MemberOutcome
replied member id reply =
    record { member = turned member id reply.turns; messages = reply.messages }

-- a member without marks
abbrev pub first_member : ℕ → Member
first_member system = record { system = system; last = 0; standings = [] }

-- the transaction of the member's own with this number
abbrev pub own_id : Member → ℕ → NetId
own_id member number = record { home = member.system; number = number }

-- start: the next number, whose votes are collected; Prepare to each
abbrev pub start : Member → List ℕ → MemberOutcome
start member others = record {
  member = turned (record member { last = member.last + 1 }) (own_id member (member.last + 1))
      (Some (Collecting (record { others = others; missing = others })));
  messages = told_each member.system (own_id member (member.last + 1)) Prepare others;
}

-- a word about the transaction, from a system
abbrev pub heard : Member → NetId → ℕ → NetWord → MemberOutcome
heard member id system word =
    replied member id (on_word member.system id system word (standing_of member id))

-- handle: a message for this member
abbrev pub handle : Member → Net → MemberOutcome
handle member message = heard member message.id message.from message.word

-- refuse: no vote will be given
abbrev pub refuse : Member → NetId → MemberOutcome
refuse member id = replied member id (on_refuse member.system id (standing_of member id))

-- ask: how did the transaction end
abbrev pub ask : Member → NetId → MemberOutcome
ask member id = replied member id (on_wait member.system id (standing_of member id))

-- give_up: the votes are no more waited for
abbrev pub give_up : Member → ℕ → MemberOutcome
give_up member number = replied member (own_id member number)
    (on_end member.system (own_id member number) (standing_of member (own_id member number)))

-- restart: the votes that were collected are lost
abbrev pub restart : Member → Member
restart member = record member { standings = map (λ entry. (entry.0, standing_after_restart entry.1)) member.standings }
