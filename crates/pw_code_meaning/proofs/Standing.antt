-- Contexts and the answers for which they stand.
use Rattle.std.proofs.Common.{◌≡◌, List, [], ◌∷◌, ◌++◌, true, refl, sym, ap, ◌∙◌}
use Rattle.pw_code.specs.declared.context.Context.{Context}
use Rattle.pw_code.specs.declared.system.System.{System}
use Rattle.pw_code.specs.declared.verb.Answer.{Answer}
use Rattle.pw_code.specs.declared.verb.Verb.{Verb}
use Rattle.pw_code_meaning.specs.Answers.{put}
use Rattle.pw_code_meaning.specs.Config.{Config, closed}
use Rattle.pw_code_meaning.specs.Contexts.{RanToVerb, RunsOn, PutsAnswer}
use Rattle.pw_code_meaning.specs.Runs.{Comes, StandsFrom, at_verb}
use Rattle.pw_code_meaning.specs.Steps.{step}
use Rattle.pw_code_meaning.proofs.RunLemmas as lemmas

pub runs_on : (system : System) (start : Config) (answers : List Answer) (old new : Context) (verb : Verb)
    → StandsFrom system start answers old → RunsOn system old new verb → StandsFrom system start answers new
runs_on system start answers old new verb stands ran =
    let r : RanToVerb system stands.at new verb = ran stands.at stands.is in
    record {
      at = r.at;
      comes = lemmas.runs_on at_verb (step system) (put system) start stands.at r.at answers stands.comes r.reaches.0;
      is = r.is;
    }

-- the context says whether it stands at a verb
verb_in : (c : Config) (context : Context) → context ≡ closed c → context.at_verb ≡ true → at_verb c ≡ true
verb_in c context is stands = ap (λ (x : Context). x.at_verb) (sym is) ∙ stands

pub takes : (system : System) (start : Config) (answers : List Answer) (a : Answer) (old new : Context)
    → StandsFrom system start answers old → old.at_verb ≡ true → PutsAnswer system a old new → StandsFrom system start (answers ++ a ∷ []) new
takes system start answers a old new stands at_its_verb took = record {
  at = put system a stands.at;
  comes = lemmas.answers_on at_verb (step system) (put system) start stands.at answers a stands.comes (verb_in stands.at old stands.is at_its_verb);
  is = took stands.at stands.is;
}

pub one_context : (system : System) (start : Config) (answers : List Answer) (a b : Context)
    → StandsFrom system start answers a → StandsFrom system start answers b → a.at_verb ≡ true → b.at_verb ≡ true → a ≡ b
one_context system start answers a b one two at_one at_two =
    one.is
    ∙ (ap closed (lemmas.one_place at_verb (step system) (put system) start one.at two.at answers one.comes two.comes
    (verb_in one.at a one.is at_one) (verb_in two.at b two.is at_two))
    ∙ sym two.is)

pub starts : (system : System) (start : Config) → Comes system start [] start
starts system start = (0, refl)
