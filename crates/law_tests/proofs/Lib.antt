pub mod LawTests
