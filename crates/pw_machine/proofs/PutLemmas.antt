-- Answers that an instruction does not await.
use Rattle.std.proofs.Common.{◌≡◌, ℕ, List, Option, refl}
use Rattle.pw_code.specs.Entry.{EntryLineModel}
use Rattle.pw_code.specs.declared.field.ScreenTable.{ScreenTable}
use Rattle.pw_code.specs.declared.place.StoragePlace.{StoragePlace}
use Rattle.pw_code.specs.declared.verb.Answer.{Answer}
use Rattle.pw_code.specs.declared.verb.Answer.TheVariants as answer
use Rattle.pw_code_meaning.specs.Answers.{begin_put, entry_put, file_passed, file_put, passed, read_put}
use Rattle.pw_code_meaning.specs.Config.{Config}

pub file_else : (a : Answer) (c : Config) → ((x : ℕ) → (y : Option (List ℕ)) → a ≡ answer.FileDone x y → ⊥) → file_passed c ≡ file_put a c
file_else answer.Shown c h = refl
file_else (answer.Begun r) c h = refl
file_else (answer.Entry line) c h = refl
file_else (answer.Replied reply) c h = refl
file_else (answer.Failed code) c h = refl
file_else answer.Ended c h = refl
file_else answer.Dropped c h = refl
file_else (answer.FileDone status content) c h = absurd (h status content refl)

pub read_else : (into : StoragePlace) (a : Answer) (c : Config) → ((x : ℕ) → (y : Option (List ℕ)) → a ≡ answer.FileDone x y → ⊥) → file_passed c ≡ read_put into a c
read_else into answer.Shown c h = refl
read_else into (answer.Begun r) c h = refl
read_else into (answer.Entry line) c h = refl
read_else into (answer.Replied reply) c h = refl
read_else into (answer.Failed code) c h = refl
read_else into answer.Ended c h = refl
read_else into answer.Dropped c h = refl
read_else into (answer.FileDone status content) c h = absurd (h status content refl)

pub begin_else : (a : Answer) (c : Config) → ((x : ℕ) → a ≡ answer.Begun x → ⊥) → passed c ≡ begin_put a c
begin_else answer.Shown c h = refl
begin_else (answer.Begun r) c h = absurd (h r refl)
begin_else (answer.Entry line) c h = refl
begin_else (answer.Replied reply) c h = refl
begin_else (answer.Failed code) c h = refl
begin_else answer.Ended c h = refl
begin_else answer.Dropped c h = refl
begin_else (answer.FileDone status content) c h = refl

pub entry_else : (table : ScreenTable) (keys : List ℕ) (a : Answer) (c : Config) → ((x : EntryLineModel) → a ≡ answer.Entry x → ⊥) → passed c ≡ entry_put table keys a c
entry_else table keys answer.Shown c h = refl
entry_else table keys (answer.Begun r) c h = refl
entry_else table keys (answer.Entry line) c h = absurd (h line refl)
entry_else table keys (answer.Replied reply) c h = refl
entry_else table keys (answer.Failed code) c h = refl
entry_else table keys answer.Ended c h = refl
entry_else table keys answer.Dropped c h = refl
entry_else table keys (answer.FileDone status content) c h = refl
