use Rattle.std.proofs.Common.{None}
use Rattle.pw_onecopy.specs.Path.{Ended}
use Rattle.pw_world_state.proofs.UnitChanges.{back-stands, begin-send-stands, begin-stands, ends-stands, send-stands}
use Rattle.pw_world_state.proofs.units.unit_laws.Goals as goal

pub returns-clause-begin : goal.returns-clause-begin
returns-clause-begin c system script state kept t n r terminal next stands here legal number asks goes =
    begin-stands system script state kept t n r terminal stands here legal.can legal.idle number next asks goes

pub returns-clause-begin_send : goal.returns-clause-begin_send
returns-clause-begin_send c system script state kept t n r class message terminal stands here legal number asks =
    begin-send-stands system script state kept t n r terminal stands here legal.can legal.idle number class message asks

pub returns-clause-send : goal.returns-clause-send
returns-clause-send c system script state kept t n class message stands legal is = send-stands system script state kept t n class message stands is

pub returns-clause-commit : goal.returns-clause-commit
returns-clause-commit c system script state kept t n terminal new stands here legal path = ends-stands system script state kept t n terminal Ended None new stands here path

pub returns-clause-back : goal.returns-clause-back
returns-clause-back c system script state kept t n terminal new stands here legal path = back-stands system script state kept t n terminal new stands here path
