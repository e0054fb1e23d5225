mod DeskLemmas
mod LetterLists
mod MailSteps
mod WorkerLemmas
mod WorkerLawLemmas
